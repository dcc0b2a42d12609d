-- What the three definitions give where they accept, and where they refuse. Assumes nothing.
use Prim.Native.Nat.{ℕ, zero, suc, ◌≤◌, ◌<◌}
use mathlib.Core.Path.{◌≡◌, refl, ap}
use mathlib.Core.Bool.{Bool, true, false, cond}
use mathlib.Core.List.{List}
use native.Mathlib.Omega.{arith}
use borrow.Author.Tests.{leb-true, leb-false, le-leb}
use lib.Dec.{leb}
use lib.ListN.{length}
use Rattle.catalogue_form.specs.Form.{Entry, fits, is_catalogue, bytes, entries, formed}
use Rattle.catalogue_form.specs.Entries.{numbered, entered, without, having, smallest}
use Rattle.catalogue_form.proofs.Forms.{parts, catalogue}
use Rattle.key.specs.Key as key
use Rattle.catalogue.specs.Catalogue.{Lent, titled, entry_refusal, refusal_of, key_refusal, add_refusal, added_by, added, remove_refusal, removed_by, removed, found_by, found}
use Rattle.catalogue.proofs.Order.{entered_rising, entered_length, entered_fit, without_rising, without_length, without_fit}

-- ---- Adding

-- an entry that is not refused
pub record Free (e : Entry) (es : List Entry) : Type 0 where
  pub absent : numbered e.number es ≡ false
  pub short : length e.key ≤ 255
  pub room : length es < 1024

-- what the questions of an entry ask for, where all are passed
pub passes : (present : Bool) (len n : ℕ) → entry_refusal present len n ≡ 0 → (present ≡ false) × ((len ≤ 255) × (n < 1024))
passes present len n = go present (leb len 255) (leb 1024 n) refl refl refl
  where
    go : (a b c : Bool) → present ≡ a → leb len 255 ≡ b → leb 1024 n ≡ c → ◌≡◌ {A = ℕ} (cond a 12 (cond b (cond c 14 0) 13)) 0
        → (present ≡ false) × ((len ≤ 255) × (n < 1024))
    go true b c p q r z = absurd (omega arith)
    go false false c p q r z = absurd (omega arith)
    go false true true p q r z = absurd (omega arith)
    go false true false p q r z = (p, (leb-true _ _ q, leb-false _ _ r))

pub free : (e : Entry) (es : List Entry) → refusal_of e es ≡ 0 → Free e es
free e es z =
    let p = passes (numbered e.number es) (length e.key) (length es) z in
    record { absent = p.0; short = p.1.0; room = p.1.1 }

-- an add that is not refused
pub record Accepted (c : Lent) : Type 0 where
  pub form : formed c.store ≡ true
  pub keyed : key.refusal c.keyed ≡ 0
  pub entry : Free (titled c) (entries c.store)
  pub stored : (added c).store ≡ bytes (entered (titled c) (entries c.store))

passed : (c : Lent) → add_refusal c ≡ 0 → (formed c.store ≡ true) × ((key.refusal c.keyed ≡ 0) × Free (titled c) (entries c.store))
unfolding add_refusal key_refusal
passed c = go (formed c.store) (key.refusal c.keyed) refl refl
  where
    go : (t : Bool) (q : ℕ) → formed c.store ≡ t → key.refusal c.keyed ≡ q → cond t (key_refusal q c) 12 ≡ 0
        → (formed c.store ≡ true) × ((key.refusal c.keyed ≡ 0) × Free (titled c) (entries c.store))
    go false q p r z = absurd (omega arith)
    go true (suc q) p r z = absurd (omega arith)
    go true zero p r z = (p, (r, free (titled c) (entries c.store) z))

pub accepted : (c : Lent) → (added c).refused ≡ 0 → Accepted c
unfolding added added_by
accepted c = go (add_refusal c) refl
  where
    go : (q : ℕ) → add_refusal c ≡ q → (added_by q c).refused ≡ 0 → Accepted c
    go zero p z =
        let f = passed c p in
        record { form = f.0; keyed = f.1.0; entry = f.1.1; stored = rw p }
    go (suc q) p z = absurd (omega arith)

-- ---- the results by the refusal

pub added_by_lem : (c : Lent) (q : ℕ) → add_refusal c ≡ q → added c ≡ added_by q c
unfolding added
added_by_lem c q e = ap (λ (n : ℕ). added_by n c) e

pub not_formed_add : (c : Lent) → formed c.store ≡ false → add_refusal c ≡ 12
unfolding add_refusal
not_formed_add c e = rw e

pub formed_add : (c : Lent) → formed c.store ≡ true → add_refusal c ≡ key_refusal (key.refusal c.keyed) c
unfolding add_refusal
formed_add c e = rw e

-- ---- The entries afterwards

pub entered_catalogue : (e : Entry) (es : List Entry) → is_catalogue es ≡ true → e.number ≤ 0xFFFFFFFF → Free e es → is_catalogue (entered e es) ≡ true
entered_catalogue e es c n f =
    let p = parts es c in
    let fit : fits e ≡ true = rw (le-leb _ _ n, le-leb _ _ f.short) in
    catalogue (entered e es) (record {
      few = omega (arith, entered_length e es, f.room);
      up = entered_rising 0 e es (omega arith) p.up f.absent;
      fit = entered_fit e es fit p.fit;
    })

pub without_catalogue : (n : ℕ) (es : List Entry) → is_catalogue es ≡ true → is_catalogue (without n es) ≡ true
without_catalogue n es c =
    let p = parts es c in
    catalogue (without n es) (record { few = omega (arith, without_length n es, p.few); up = without_rising 0 n es p.up; fit = without_fit n es p.fit })

-- ---- Removing

pub removed_by_lem : (store : List ℕ) (n q : ℕ) → remove_refusal store n ≡ q → removed store n ≡ removed_by q store n
unfolding removed
removed_by_lem store n q e = ap (λ (m : ℕ). removed_by m store n) e

pub removes : (store : List ℕ) (n : ℕ) → formed store ≡ true → remove_refusal store n ≡ cond (numbered n (entries store)) 0 12
unfolding remove_refusal
removes store n e = rw e

pub removes_not : (store : List ℕ) (n : ℕ) → formed store ≡ false → remove_refusal store n ≡ 12
unfolding remove_refusal
removes_not store n e = rw e

-- ---- Finding

pub finds : (store k : List ℕ) → formed store ≡ true
    → found store k ≡ record { refused = 0; entries = length (having k (entries store)); number = smallest (having k (entries store)) }
unfolding found found_by
finds store k e = rw e

pub finds_not : (store k : List ℕ) → formed store ≡ false → found store k ≡ record { refused = 12; entries = 0; number = 0 }
unfolding found found_by
finds_not store k e = rw e
