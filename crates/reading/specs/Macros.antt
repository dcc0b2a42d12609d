-- Macros: decode.rs, `run_macro`, `default_macro` and `macro_cmd`.
use Rattle.std.specs.Prelude.{ℕ, suc, ◌+◌, ◌-◌, ◌*◌, ◌%◌, cond, ◌&&◌, ◌||◌, List, [], ◌∷◌, ◌++◌, eqb, ltb, leb, length, take, drop, get_or}
use Rattle.sets.specs.Sets.{designation}
use Rattle.control.specs.Codes.{LS0, ESC, MACRO}
use Rattle.issues.specs.declared.IssueKind.TheVariants.{MalformedControl, UndefinedMacro, MacroLimit}
use Rattle.reading.specs.State.{Given, State, Step, took, issue, truncated, define, charge}

-- To run a body one deeper: the body, its place in the input, the outermost caller's offset + 1, the state.
abbrev pub Run : Type 0
Run = List ℕ → ℕ → ℕ → State → State

-- Table 7-18: the sets that the built-in bodies of codes 60 to 6F designate to G0, G1 and G2
abbrev pub builtin_sets : List (List ℕ)
builtin_sets =
    (0 ∷ 1 ∷ 2 ∷ [])
    ∷ (0 ∷ 3 ∷ 2 ∷ [])
    ∷ (0 ∷ 17 ∷ 2 ∷ [])
    ∷ (4 ∷ 6 ∷ 7 ∷ [])
    ∷ (4 ∷ 5 ∷ 7 ∷ [])
    ∷ (4 ∷ 17 ∷ 7 ∷ [])
    ∷ (17 ∷ 18 ∷ 19 ∷ [])
    ∷ (20 ∷ 21 ∷ 22 ∷ [])
    ∷ (23 ∷ 24 ∷ 25 ∷ [])
    ∷ (26 ∷ 27 ∷ 28 ∷ [])
    ∷ (29 ∷ 30 ∷ 31 ∷ [])
    ∷ (0 ∷ 18 ∷ 2 ∷ [])
    ∷ (0 ∷ 19 ∷ 2 ∷ [])
    ∷ (0 ∷ 20 ∷ 2 ∷ [])
    ∷ (3 ∷ 2 ∷ 1 ∷ [])
    ∷ (1 ∷ 4 ∷ 17 ∷ [])
    ∷ []

-- designations of three sets to G0, G1 and G2, of the macro set to G3, and "LS0 and then LS2R, the bytes 0F 1B 7D"
unfoldable pub builtin_of : List ℕ → List ℕ
unfolding designation
builtin_of f = designation (get_or f 0 0) 0 ++ (designation (get_or f 1 0) 1 ++ (designation (get_or f 2 0) 2 ++ (designation 15 3 ++ (LS0 ∷ ESC ∷ 0x7D ∷ []))))

-- the built-in body of a code from 60 to 6F
unfoldable pub builtin : ℕ → List ℕ
unfolding builtin_of
builtin code = builtin_of (get_or builtin_sets (code - 0x60) [])

-- 64 × length + 4,096
unfoldable pub limit : List ℕ → ℕ
limit input = 64 * length input + 4096

-- "A macro's body runs only when fewer than four bodies are open and its length is within what remains"; `left` more may be opened
unfoldable pub run_body : Given → ℕ → Run → List ℕ → ℕ → ℕ → State → State
unfolding limit issue charge
run_body g left R body base at s =
    cond (eqb left 0 || ltb (limit g.input) (s.charged + length body))
    (issue at MacroLimit s)
    (R body base (suc at) (charge (length body) s))

-- "Codes 60 to 6F have the sixteen built-in bodies unless redefined, if only by an empty body"
unfoldable pub run_macro : Given → ℕ → Run → ℕ → ℕ → State → State
unfolding run_body builtin issue
run_macro g left R code at s =
    cond (eqb (get_or s.starts code 0) 0)
    (cond (leb 0x60 code && leb code 0x6F) (run_body g left R (builtin code) 0 at s) (issue at (UndefinedMacro code) s))
    (run_body g left R (take (get_or s.lens code 0) (drop (get_or s.starts code 0) g.input)) (get_or s.starts code 0) at s)

-- how many bytes stand before the first 95 4F: all of them where there is none
unfoldable pub end_of : List ℕ → ℕ
end_of [] = 0
end_of (x ∷ []) = 1
end_of (x ∷ (y ∷ r)) = cond (eqb x MACRO && eqb y 0x4F) 0 (suc (end_of (y ∷ r)))

-- MACRO p mc with a body of n bytes, at the place `place` of the input: 40 defines, 41 defines and runs once
unfoldable pub defined : Given → ℕ → Run → ℕ → ℕ → ℕ → ℕ → ℕ → State → Step
unfolding define run_macro
defined g left R p code n place at s =
    cond (eqb p 0x41)
    (took (n + 5) (run_macro g left R code at (define code (place + 3) n s)))
    (took (n + 5) (define code (place + 3) n s))

-- MACRO 40 or 41: what follows the parameter p
unfoldable pub definition : Given → ℕ → Run → ℕ → List ℕ → ℕ → ℕ → State → Step
unfolding defined end_of truncated
definition g left R p [] place at s = truncated 2 at s
definition g left R p (mc ∷ r) place at s =
    cond (ltb (end_of r) (length r)) (defined g left R p (mc % 128) (end_of r) place at s) (truncated (length r + 3) at s)

-- MACRO, Table 7-16: the bytes after 95, at the place `place` of the input
unfoldable pub macro_cmd : Given → ℕ → Run → List ℕ → ℕ → ℕ → State → Step
unfolding definition truncated issue
macro_cmd g left R [] place at s = truncated 1 at s
macro_cmd g left R (p ∷ r) place at s =
    cond (eqb p 0x4F) (took 2 s)
    (cond (eqb p 0x40 || eqb p 0x41) (definition g left R p r place at s) (took 2 (issue at (MalformedControl MACRO) s)))
