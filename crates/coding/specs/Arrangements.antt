-- Worked examples of admissible codings: controls that serve no character, and what controls leave as it is.
use Rattle.std.specs.Prelude.{ℕ, ◌≡◌, refl, List, [], ◌∷◌}
use Rattle.std.proofs.Common.{arith}
use Rattle.sets.specs.Sets.{designation}
use Rattle.coding.specs.State.{start, set_in, designate, lock_gl, lock_gr, single, resize}
use Rattle.coding.specs.Candidates.{narrow, wide, Cand, graphic}
use Rattle.coding.specs.Admissible.{here, Sized, designates, locks_gl, locks_gr, msz, nsz, low, left, right, shifted, Admissible, done, control, write}

-- a coding of あ, code 22 of the Hiragana set, from the Si start
abbrev pub Codes : List ℕ → Type 0
Codes bytes = Admissible (start 0) ((graphic 2 (0x22 ∷ []) wide ∷ []) ∷ []) bytes

pub record Arrangements : Type 0 where
  -- "designations of any set": Macro to G3, DRCS-0 to G0, DRCS-15 to G1, and あ from G2 in GR
  pub any_set : Codes (0x1B ∷ 0x2B ∷ 0x20 ∷ 0x70 ∷ 0x1B ∷ 0x24 ∷ 0x28 ∷ 0x20 ∷ 0x40 ∷ 0x1B ∷ 0x29 ∷ 0x20 ∷ 0x4F ∷ 0xA2 ∷ [])
  -- locking shifts that serve no character: LS3, LS3R, and あ from G2 by SS2
  pub any_shift : Codes (0x1B ∷ 0x6F ∷ 0x1B ∷ 0x7C ∷ 0x19 ∷ 0x22 ∷ [])
  -- "Anywhere between characters, and at either end", whether or not the size changes: NSZ, あ, MSZ, MSZ
  pub any_size : Codes (0x8A ∷ 0xA2 ∷ 0x89 ∷ 0x89 ∷ [])

pub arrangements : Arrangements
unfolding start set_in designate designation lock_gl lock_gr single
arrangements =
    record {
      any_set =
          control (designates 15 3 (omega arith) (omega arith)) (control (designates 16 0 (omega arith) (omega arith))
          (control (designates 31 1 (omega arith) (omega arith)) (write (here (right (0x22 ∷ []) wide refl)) (done _))));
      any_shift =
          control (locks_gl 3 (omega arith)) (control (locks_gr 3 (omega arith) (omega arith))
          (write (here (shifted (0x22 ∷ []) wide 2 0 low refl (omega arith) (omega arith))) (done _)));
      any_size = control nsz (write (here (right (0x22 ∷ []) wide refl)) (control msz (control msz (done _))));
    }

-- the candidates of あ in the Hiragana set, of 亜 in the Kanji set, of A and of Ａ in the Alphanumeric set
abbrev pub hiragana : List Cand
hiragana = graphic 2 (0x22 ∷ []) wide ∷ []

abbrev pub kanji : List Cand
kanji = graphic 0 (0x30 ∷ 0x21 ∷ []) wide ∷ []

abbrev pub narrow_a : List Cand
narrow_a = graphic 1 (0x41 ∷ []) narrow ∷ []

abbrev pub wide_a : List Cand
wide_a = graphic 1 (0x41 ∷ []) wide ∷ []

-- a coding of characters from the Si start
abbrev pub CodesOf : List (List Cand) → List ℕ → Type 0
CodesOf css bytes = Admissible (start 0) css bytes

pub record Kept : Type 0 where
  -- a locking shift leaves the size: MSZ, LS1, A; and NSZ undoes MSZ: Ａ
  pub size_kept : CodesOf (narrow_a ∷ wide_a ∷ []) (0x89 ∷ 0x0E ∷ 0x41 ∷ 0x8A ∷ 0x41 ∷ [])
  -- a single shift is for one character: SS2 and あ, then 亜 from G0 in GL
  pub one_shifted : CodesOf (hiragana ∷ kanji ∷ []) (0x19 ∷ 0x22 ∷ 0x30 ∷ 0x21 ∷ [])
  -- under MSZ no wide candidate is written
  pub wide_undone : Sized (resize (start 0) 1) wide → ⊥

pub kept : Kept
unfolding start set_in lock_gl lock_gr single resize
kept =
    record {
      size_kept =
          control msz (control (locks_gl 1 (omega arith)) (write (here (left (0x41 ∷ []) narrow refl))
          (control nsz (write (here (left (0x41 ∷ []) wide refl)) (done _)))));
      one_shifted =
          write (here (shifted (0x22 ∷ []) wide 2 0 low refl (omega arith) (omega arith))) (write (here (left (0x30 ∷ 0x21 ∷ []) wide refl)) (done _));
      wide_undone = λ (q : ◌≡◌ {A = ℕ} 1 0). omega arith;
    }
