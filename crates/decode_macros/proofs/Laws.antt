-- Laws of the built-in bodies, of the end of a definition, and of MACRO. Assumes nothing.
use Prim.Native.Nat.{ℕ, zero, suc, ◌+◌, ◌-◌, ◌%◌, ◌≤◌, ◌<◌}
use mathlib.Core.Path.{◌≡◌, refl, sym, ap, ◌∙◌, subst}
use mathlib.Core.Bool.{Bool, true, false, cond, ◌&&◌, ◌||◌}
use mathlib.Core.List.{List, [], ◌∷◌, ◌++◌, append_assoc}
use native.Mathlib.Nat.{zero-add}
use native.Mathlib.Numerals.{add-one}
use native.Mathlib.Omega.{arith}
use borrow.Author.Tests.{eq-eqb, ne_eqb, eqb-true, eqb-false, lt-ltb, le-ltb, le-leb, leb-true}
use lib.Dec.{T, eqb, leb, eqb→eq}
use lib.ListN.{length, take, drop, get_or, length-append, length-drop, drop_of_length-le}
use lib.Seq.{sets, drop-drop, take_all, sets-eq, length-sets, length-take-le, take-append_seam, drop-append_seam, drop-cons}
use Rattle.base.proofs.Table.{at}
use Rattle.std.specs.List.{starts_with}
use Rattle.lent.specs.Put.{Put}
use Rattle.control.specs.Codes.{MACRO}
use Rattle.sets.specs.Sets.{designation}
use Rattle.issues.specs.declared.IssueKind.TheVariants.{MalformedControl}
use Rattle.reading.specs.State.{Given, State, took, issue, truncated}
use Rattle.reading.specs.Macros.{Run, builtin_sets, builtin_of, builtin, end_of, defined, definition, macro_cmd}
use Rattle.decode_macros.specs.declared.Command.{Command}
use Rattle.decode_macros.specs.declared.Command.TheVariants.{Ends, Defines}
use Rattle.decode_macros.specs.Promises.{Built, Ended, Defined, Within}

-- ---- bytes written over those in the middle of a buffer

pub middle : (l : List ℕ) (at n : ℕ) {m : List ℕ} (s : List ℕ) → n ≡ length s → at + length s ≤ length l → m ≡ s → take at l ++ (m ++ drop n (drop at l)) ≡ sets l at s
middle l at n s h k e =
    let q : at + n ≡ at + length s = omega (arith, h) in
    ap (λ (m : List ℕ). take at l ++ (m ++ drop n (drop at l))) e
    ∙ ap (λ (r : List ℕ). take at l ++ (s ++ r)) (drop-drop n at l ∙ ap (λ (k : ℕ). drop k l) q)
    ∙ sym (append_assoc (take at l) s (drop (at + length s) l)) ∙ sym (sets-eq s l at k)

-- ---- the built-in bodies, computed over Table 7-18

row : (code : ℕ) → 0x60 ≤ code → code ≤ 0x6F → code - 0x60 < 16
row code a b = omega arith

-- no definition ends in one
pub builtin_bare : (code : ℕ) → 0x60 ≤ code → code ≤ 0x6F → end_of (builtin code) ≡ length (builtin code)
unfolding builtin end_of
builtin_bare code a b = eqb→eq _ _ (at [] (λ _ f. eqb (end_of (builtin_of f)) (length (builtin_of f))) builtin_sets tt (code - 0x60) (row code a b))

pub record Short (xs : List ℕ) : Type 0 where
  pub low : 16 ≤ length xs
  pub high : length xs ≤ 19

within : (n : ℕ) → T (leb 16 n && leb n 19) → (16 ≤ n) × (n ≤ 19)
within n t = go (leb 16 n) refl (leb n 19) refl t
  where
    go : (u : Bool) → leb 16 n ≡ u → (v : Bool) → leb n 19 ≡ v → T (u && v) → (16 ≤ n) × (n ≤ 19)
    go true e true f t = (leb-true _ _ e, leb-true _ _ f)
    go true e false f t = absurd t
    go false e v f t = absurd t

-- each has 16 to 19 bytes
pub builtin_short : (code : ℕ) → 0x60 ≤ code → code ≤ 0x6F → Short (builtin code)
unfolding builtin
builtin_short code a b =
    let t = within (length (builtin code)) (at [] (λ _ f. leb 16 (length (builtin_of f)) && leb (length (builtin_of f)) 19) builtin_sets tt (code - 0x60) (row code a b)) in
    record { low = t.0; high = t.1 }

-- its length, by its parts
pub parts : (f : List ℕ) → length (builtin_of f) ≡ length (designation (get_or f 0 0) 0) + length (designation (get_or f 1 0) 1) + length (designation (get_or f 2 0) 2) + length
    (designation 15 3) + 3
unfolding builtin_of
parts f = simp length-append (omega arith)

-- it has room in a buffer of 19
pub room : (l : List ℕ) (code : ℕ) → 0x60 ≤ code → code ≤ 0x6F → length l ≡ 19 → length (builtin code) ≤ length l
room l code a b h = omega (arith, (builtin_short code a b).high)

-- the body written to the front of a buffer
pub built : {l l' : List ℕ} {r : ℕ} (code : ℕ) → 0x60 ≤ code → code ≤ 0x6F → length l ≡ 19 → Put l 0 (builtin code) l' r → Built l code l' r
built {l} {l'} {r} code a b h p =
    let s = builtin_short code a b in
    let n : r ≡ length (builtin code) = p.next ∙ zero-add _ in
    let e : l' ≡ builtin code ++ drop (length (builtin code)) l = p.written ∙ sets-eq (builtin code) l 0 (omega (arith, s.high)) ∙ rw zero-add in
    let k : length l' ≡ length l = ap length p.written ∙ length-sets l 0 (builtin code) in
    record {
      same = k;
      fits = omega (arith, s.high);
      has = λ _. rw (n, e) (take-append_seam (builtin code) _);
      some = λ _. omega (arith, s.low);
      none = λ f. absurd (off f);
      rest = rw (n, e) (drop-append_seam (builtin code) _);
    }
  where
    off : (leb 0x60 code && leb code 0x6F) ≡ false → ⊥
    off f = let z : true ≡ false = simp (le-leb _ _ a, le-leb _ _ b) at f in absurd (subst T z tt)

-- no body is written for another code
pub unbuilt : (l : List ℕ) (code : ℕ) → (leb 0x60 code && leb code 0x6F) ≡ false → Built l code l 0
unbuilt l code f =
    record {
      same = refl;
      fits = omega arith;
      has = λ t. on t;
      some = λ t. on t;
      none = λ _. refl;
      rest = refl;
    }
  where
    on : {X : Type 0} → (leb 0x60 code && leb code 0x6F) ≡ true → X
    on t = absurd (subst T (sym t ∙ f) tt)

-- ---- a suffix, by its first elements

drop_one : (b : List ℕ) (j : ℕ) → j < length b → drop j b ≡ get_or b j 0 ∷ drop (j + 1) b
drop_one b j h = rw (add-one, drop-cons b j 0)

drop_next : (b : List ℕ) (j k : ℕ) → j < length b → j + 1 ≡ k → drop j b ≡ get_or b j 0 ∷ drop k b
drop_next b j k h e = drop_one b j h ∙ ap (λ (n : ℕ). get_or b j 0 ∷ drop n b) e

drop_two : (b : List ℕ) (j : ℕ) → j + 1 < length b → drop j b ≡ get_or b j 0 ∷ (get_or b (j + 1) 0 ∷ drop (j + 2) b)
drop_two b j h = drop_one b j (omega arith) ∙ ap (λ (r : List ℕ). get_or b j 0 ∷ r) (drop_next b (j + 1) (j + 2) h (omega arith))

-- ---- the end of a definition

end_one : (x y : ℕ) (r : List ℕ) → (x ≡ 0x95 → y ≡ 0x4F → ⊥) → end_of (x ∷ (y ∷ r)) ≡ suc (end_of (y ∷ r))
unfolding end_of
end_one x y r p = go (eqb x 0x95) refl (eqb y 0x4F) refl
  where
    go : (u : Bool) → eqb x 0x95 ≡ u → (v : Bool) → eqb y 0x4F ≡ v → cond (u && v) 0 (suc (end_of (y ∷ r))) ≡ suc (end_of (y ∷ r))
    go true e true f = absurd (p (eqb-true _ _ e) (eqb-true _ _ f))
    go true e false f = refl
    go false e v f = refl

pub end_stop : (b : List ℕ) (j : ℕ) → j + 1 < length b → get_or b j 0 ≡ 0x95 → get_or b (j + 1) 0 ≡ 0x4F → end_of (drop j b) ≡ 0
unfolding end_of
end_stop b j h p q = rw (drop_two b j h) (simp (eq-eqb _ _ p, eq-eqb _ _ q))

-- the bytes from j on, held against the macro ending
abbrev starts : List ℕ → Bool
starts l = starts_with eqb l (MACRO ∷ 0x4F ∷ [])

end_at : {r : Bool} (l : List ℕ) → r ≡ starts l → r ≡ true → end_of l ≡ 0
unfolding end_of
end_at [] e t = refl
end_at (x ∷ []) e t = let z : false ≡ true = go (eqb 0x95 x) (sym e ∙ t) in absurd (subst T (sym z) tt)
  where
    go : (u : Bool) → (u && false) ≡ true → false ≡ true
    go true q = q
    go false q = q
end_at (x ∷ (y ∷ r)) e t = go (eqb 0x95 x) refl (eqb 0x4F y) refl (sym e ∙ t)
  where
    go : (u : Bool) → eqb 0x95 x ≡ u → (v : Bool) → eqb 0x4F y ≡ v → (u && (v && true)) ≡ true → cond (eqb x 0x95 && eqb y 0x4F) 0 (suc (end_of (y ∷ r))) ≡ 0
    go true p true q z = rw (eq-eqb x 0x95 (sym (eqb-true _ _ p)), eq-eqb y 0x4F (sym (eqb-true _ _ q)))
    go true p false q z = absurd (subst T (sym z) tt)
    go false p v q z = absurd (subst T (sym z) tt)

end_cons : {r : Bool} (x : ℕ) (l : List ℕ) → r ≡ starts (x ∷ l) → r ≡ false → end_of (x ∷ l) ≡ suc (end_of l)
unfolding end_of
end_cons x [] e f = refl
end_cons x (y ∷ r) e f = end_one x y r (λ p q. go (sym f ∙ e) (eq-eqb 0x95 x (sym p)) (eq-eqb 0x4F y (sym q)))
  where
    go : false ≡ (eqb 0x95 x && (eqb 0x4F y && true)) → eqb 0x95 x ≡ true → eqb 0x4F y ≡ true → ⊥
    go z p q = let w : false ≡ true = rw (p, q) at z in subst T (sym w) tt

-- all that stands from j on
whole : (b : List ℕ) (j : ℕ) → take (length b - j) (drop j b) ≡ drop j b
whole b j = take_all (length b - j) (drop j b) (omega (arith, length-drop j b))

pub end_here : {r : Bool} (b : List ℕ) (j : ℕ) → r ≡ starts (take (length b - j) (drop j b)) → r ≡ true → end_of (drop j b) ≡ 0
end_here b j e t = end_at (drop j b) (e ∙ ap starts (whole b j)) t

pub end_past : {r : Bool} (b : List ℕ) (j : ℕ) → j < length b → r ≡ starts (take (length b - j) (drop j b)) → r ≡ false → end_of (drop j b) ≡ suc (end_of (drop (j + 1) b))
end_past b j h e f = rw (drop_one b j h) (end_cons _ (drop (j + 1) b) (e ∙ ap starts (whole b j ∙ drop_one b j h)) f)

-- the first two bytes decide, so that they alone may be held against it
of_two : (l : List ℕ) → 2 ≤ length l → starts (take 2 l) ≡ starts l
of_two [] h = absurd (omega arith)
of_two (x ∷ []) h = absurd (omega arith)
of_two (x ∷ (y ∷ r)) h = refl

two_left : (b : List ℕ) (j : ℕ) → j + 1 < length b → 2 ≤ length (drop j b)
two_left b j h = omega (arith, length-drop j b, h)

for_all : {r : Bool} {n : ℕ} (b : List ℕ) (j : ℕ) → j + 1 < length b → n ≡ 2 → r ≡ starts (take n (drop j b)) → r ≡ starts (take (length b - j) (drop j b))
for_all b j h q e = e ∙ (ap (λ (n : ℕ). starts (take n (drop j b))) q ∙ (of_two (drop j b) (two_left b j h) ∙ ap starts (sym (whole b j))))

pub end_here_two : {r : Bool} {n : ℕ} (b : List ℕ) (j : ℕ) → j + 1 < length b → n ≡ 2 → r ≡ starts (take n (drop j b)) → r ≡ true → end_of (drop j b) ≡ 0
end_here_two b j h q e t = end_here b j (for_all b j h q e) t

pub end_past_two : {r : Bool} {n : ℕ} (b : List ℕ) (j : ℕ) → j + 1 < length b → n ≡ 2 → r ≡ starts (take n (drop j b)) → r ≡ false
    → end_of (drop j b) ≡ suc (end_of (drop (j + 1) b))
end_past_two b j h q e f = end_past b j (omega arith) (for_all b j h q e) f

end_last : (r : List ℕ) {n j : ℕ} → length r ≡ n - j → j ≤ n → n ≤ j + 1 → j + end_of r ≡ n
unfolding end_of
end_last [] e h p = omega arith
end_last (x ∷ []) e h p = omega arith
end_last (x ∷ (y ∷ r)) e h p = omega arith

pub end_none : (b : List ℕ) (j : ℕ) → j ≤ length b → length b ≤ j + 1 → j + end_of (drop j b) ≡ length b
end_none b j h p = end_last (drop j b) (length-drop j b) h p

-- an end has two bytes
end_room : (l : List ℕ) → end_of l < length l → end_of l + 2 ≤ length l
unfolding end_of
end_room [] h = omega arith
end_room (x ∷ []) h = omega arith
end_room (x ∷ (y ∷ r)) h = go (eqb x 0x95 && eqb y 0x4F) h (end_room (y ∷ r))
  where
    go : (u : Bool) → cond u 0 (suc (end_of (y ∷ r))) < suc (suc (length r))
        → (end_of (y ∷ r) < suc (length r) → end_of (y ∷ r) + 2 ≤ suc (length r))
        → cond u 0 (suc (end_of (y ∷ r))) + 2 ≤ suc (suc (length r))
    go true k f = omega arith
    go false k f = let g : end_of (y ∷ r) + 2 ≤ suc (length r) = f (omega arith) in omega arith

-- where no definition ends, none ends further on
end_tail : (x : ℕ) (xs : List ℕ) → end_of (x ∷ xs) ≡ suc (length xs) → end_of xs ≡ length xs
unfolding end_of
end_tail x [] h = refl
end_tail x (y ∷ r) h = go (eqb x 0x95 && eqb y 0x4F) h
  where
    go : (u : Bool) → cond u 0 (suc (end_of (y ∷ r))) ≡ suc (suc (length r)) → end_of (y ∷ r) ≡ suc (length r)
    go true k = omega arith
    go false k = omega arith

pub end_drop : (l : List ℕ) (j : ℕ) → end_of l ≡ length l → end_of (drop j l) ≡ length (drop j l)
unfolding end_of
end_drop l zero h = h
end_drop [] (suc j) h = refl
end_drop (x ∷ xs) (suc j) h = end_drop xs j (end_tail x xs h)

-- no definition ends in what stands before the first end
pub end_cut : (l : List ℕ) → end_of (take (end_of l) l) ≡ end_of l
unfolding end_of
end_cut [] = refl
end_cut (x ∷ []) = refl
end_cut (x ∷ (y ∷ r)) = split (eqb x 0x95) refl (eqb y 0x4F) refl (end_cut (y ∷ r))
  where
    go : (m : ℕ) → (x ≡ 0x95 → y ≡ 0x4F → ⊥) → end_of (take m (y ∷ r)) ≡ m → end_of (x ∷ take m (y ∷ r)) ≡ suc m
    go zero p ih = refl
    go (suc m) p ih = end_one x y (take m r) p ∙ ap suc ih

    split : (u : Bool) → eqb x 0x95 ≡ u → (v : Bool) → eqb y 0x4F ≡ v → end_of (take (end_of (y ∷ r)) (y ∷ r)) ≡ end_of (y ∷ r)
        → end_of (take (cond (u && v) 0 (suc (end_of (y ∷ r)))) (x ∷ (y ∷ r))) ≡ cond (u && v) 0 (suc (end_of (y ∷ r)))
    split true e true f ih = refl
    split true e false f ih = go (end_of (y ∷ r)) (λ p q. eqb-false _ _ f q) ih
    split false e v f ih = go (end_of (y ∷ r)) (λ p q. eqb-false _ _ e p) ih

-- ---- MACRO at the byte i of b

module _ (b : List ℕ) (i : ℕ) (g : Given) (left : ℕ) (R : Run) where
  pub definition_none : (p place at : ℕ) (s : State) → i + 1 < length b → length b ≤ i + 2 → definition g left R p (drop (i + 2) b) place at s ≡ truncated (length b - i) at s
  unfolding definition
  definition_none p place at s h k =
      let e : 2 ≡ length b - i = omega arith in
      rw (drop_of_length-le b k) (ap (λ (n : ℕ). truncated n at s) e)

  pub definition_ends : (p place at : ℕ) (s : State) → i + 2 < length b → i + 3 + end_of (drop (i + 3) b) < length b
      → definition g left R p (drop (i + 2) b) place at s ≡ defined g left R p (get_or b (i + 2) 0 % 128) (end_of (drop (i + 3) b)) place at s
  unfolding definition
  definition_ends p place at s h k =
      let q : end_of (drop (i + 3) b) < length (drop (i + 3) b) = omega (arith, length-drop (i + 3) b) in
      rw (drop_next b (i + 2) (i + 3) h (omega arith)) (simp (lt-ltb _ _ q))

  pub definition_open : (p place at : ℕ) (s : State) → i + 2 < length b → length b ≤ i + 3 + end_of (drop (i + 3) b)
      → definition g left R p (drop (i + 2) b) place at s ≡ truncated (length b - i) at s
  unfolding definition
  definition_open p place at s h k =
      let q : length (drop (i + 3) b) ≤ end_of (drop (i + 3) b) = omega (arith, length-drop (i + 3) b) in
      let e : length (drop (i + 3) b) + 3 ≡ length b - i = omega (arith, length-drop (i + 3) b) in
      rw (drop_next b (i + 2) (i + 3) h (omega arith)) (simp (le-ltb _ _ q, e))

  pub cmd_none : (place at : ℕ) (s : State) → i < length b → length b ≤ i + 1 → macro_cmd g left R (drop (i + 1) b) place at s ≡ truncated (length b - i) at s
  unfolding macro_cmd
  cmd_none place at s h k =
      let e : 1 ≡ length b - i = omega arith in
      rw (drop_of_length-le b k) (ap (λ (n : ℕ). truncated n at s) e)

  module _ (h : i + 1 < length b) where
    pub cmd_ends : (place at : ℕ) (s : State) → get_or b (i + 1) 0 ≡ 0x4F → macro_cmd g left R (drop (i + 1) b) place at s ≡ took 2 s
    unfolding macro_cmd
    cmd_ends place at s p = rw (drop_next b (i + 1) (i + 2) h (omega arith)) (simp (eq-eqb _ _ p))

    pub cmd_defines : (q place at : ℕ) (s : State) → (eqb q 0x4F ≡ false) × ((eqb q 0x40 || eqb q 0x41) ≡ true) → get_or b (i + 1) 0 ≡ q
        → macro_cmd g left R (drop (i + 1) b) place at s ≡ definition g left R q (drop (i + 2) b) place at s
    unfolding macro_cmd
    cmd_defines q place at s t p = rw (drop_next b (i + 1) (i + 2) h (omega arith), p) (simp (t.0, t.1))

    pub cmd_other : (place at : ℕ) (s : State) → (get_or b (i + 1) 0 ≡ 0x4F → ⊥) → (get_or b (i + 1) 0 ≡ 0x40 → ⊥) → (get_or b (i + 1) 0 ≡ 0x41 → ⊥)
        → macro_cmd g left R (drop (i + 1) b) place at s ≡ took 2 (issue at (MalformedControl 0x95) s)
    unfolding macro_cmd
    cmd_other place at s x y z = rw (drop_next b (i + 1) (i + 2) h (omega arith)) (simp (ne_eqb _ _ x, ne_eqb _ _ y, ne_eqb _ _ z))

-- a definition whose end is found lies in b
pub defined_at : (b : List ℕ) (i m : ℕ) → i + 3 + end_of (drop (i + 3) b) < length b → Defined (m % 128) (end_of (drop (i + 3) b)) b i
defined_at b i m h =
    record {
      small = omega arith;
      ended = omega (arith, end_room (drop (i + 3) b) (omega (arith, length-drop (i + 3) b)), length-drop (i + 3) b);
      first = refl;
    }

-- the body of a definition lies in b
pub defined_fits : {code len : ℕ} {b : List ℕ} {i : ℕ} → Defined code len b i → i + 3 + len ≤ length b
defined_fits d = omega (arith, d.ended)

-- and no definition ends in it
pub defined_bare : {code len : ℕ} {b : List ℕ} {i : ℕ} → Defined code len b i → end_of (take len (drop (i + 3) b)) ≡ length (take len (drop (i + 3) b))
defined_bare {code} {len} {b} {i} d =
    let e : end_of (take len (drop (i + 3) b)) ≡ len = rw d.first (end_cut (drop (i + 3) b)) in
    e ∙ sym (length-take-le len (drop (i + 3) b) (omega (arith, d.ended, length-drop (i + 3) b)))

-- where no definition ends, MACRO neither ends nor makes one
pub bare_ends : {r : Command} (b : List ℕ) (i : ℕ) → end_of b ≡ length b → get_or b i 0 ≡ 0x95 → Within r b i → r ≡ Ends → ⊥
bare_ends b i e p w q =
    let h : Ended b i = rw q at w in
    omega (arith, end_stop b i (omega (arith, h.room)) p h.byte, end_drop b i e, length-drop i b)

pub bare_defines : {r : Command} {code len : ℕ} {runs : Bool} (b : List ℕ) (i : ℕ) → end_of b ≡ length b → Within r b i → r ≡ Defines code len runs → ⊥
bare_defines {r} {code} {len} b i e w q =
    let h : Defined code len b i = rw q at w in
    omega (arith, end_drop b (i + 3) e, length-drop (i + 3) b)
