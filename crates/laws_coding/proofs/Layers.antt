-- A layer is made by pushing, one after another, all nodes that the layer before reaches. Assumes nothing.
use mathlib.Core.Path.{◌≡◌, refl}
use mathlib.Core.Bool.{Bool, true, false, cond}
use mathlib.Core.Logic.{◌⊎◌, inl, inr}
use mathlib.Core.List.{List, [], ◌∷◌, ◌++◌}
use Prim.Native.Nat.{ℕ, suc}
use lib.Dec.{leb}
use Rattle.coding.specs.State.{same_state}
use Rattle.coding.specs.Candidates.{Cand}
use Rattle.coding.specs.Search.{Node, push, push_all, by_cand, by_cands, reach, keep}
use Rattle.base.specs.Lists.{All}
use Rattle.coding.specs.Admissible.{Some, here, there}
use Rattle.base.proofs.Tests.{either}

-- all nodes that a node reaches, that some nodes reach
unfoldable pub by_each : Node → ℕ → List Cand → List Node
by_each n i [] = []
by_each n i (k ∷ ks) = by_cand n i k ++ by_each n i ks

unfoldable pub reached : List Cand → List Node → ℕ → List Node
unfolding by_each
reached ks [] i = []
reached ks (n ∷ ns) i = by_each n i ks ++ reached ks ns (suc i)

push_append : (l a b : List Node) → push_all l (a ++ b) ≡ push_all (push_all l a) b
unfolding push_all
push_append l [] b = refl
push_append l (n ∷ a) b = push_append (push l n) a b

cands_flat : (n : Node) (i : ℕ) (l : List Node) (ks : List Cand) → by_cands n i l ks ≡ push_all l (by_each n i ks)
unfolding by_cands by_each
cands_flat n i l [] = refl
cands_flat n i l (k ∷ ks) = cc (cands_flat n i (push_all l (by_cand n i k)) ks, push_append l (by_cand n i k) (by_each n i ks))

pub reach_flat : (ks : List Cand) (ns : List Node) (i : ℕ) (l : List Node) → reach ks ns i l ≡ push_all l (reached ks ns i)
unfolding reach reached
reach_flat ks [] i l = refl
reach_flat ks (n ∷ ns) i l = cc (reach_flat ks ns (suc i) (by_cands n i l ks), cands_flat n i l ks, push_append l (by_each n i ks) (reached ks ns (suc i)))

-- what holds of every node pushed, and then kept
module _ (P : Node → Type 0) where
  push_every : (l : List Node) (n : Node) → All P l → P n → All P (push l n)
  unfolding push
  push_every [] n a p = (p, tt)
  push_every (m ∷ ms) n a p = go (same_state m.state n.state) refl (push_every ms n a.1 p)
    where
      go : (b : Bool) → same_state m.state n.state ≡ b → All P (push ms n) → All P (push (m ∷ ms) n)
      go true e r = rw (e, push) (either P (leb m.cost n.cost) a.0 p, a.1)
      go false e r = rw (e, push) (a.0, r)

  pub all_every : (l ns : List Node) → All P l → All P ns → All P (push_all l ns)
  unfolding push_all
  all_every l [] a b = a
  all_every l (n ∷ ns) a b = all_every (push l n) ns (push_every l n a b.0) b.1

  pub keep_every : (top : ℕ) (l : List Node) → All P l → All P (keep top l)
  unfolding keep
  keep_every top [] a = tt
  keep_every top (n ∷ ns) a = go (leb n.cost top) refl (keep_every top ns a.1)
    where
      go : (b : Bool) → leb n.cost top ≡ b → All P (keep top ns) → All P (keep top (n ∷ ns))
      go true e r = rw (e, keep) (a.0, r)
      go false e r = rw (e, keep) r

-- what holds of some node before, or of some node pushed, if the cheaper of two of one state keeps it
module _ (P : Node → Type 0) (cheaper : (m n : Node) → same_state m.state n.state ≡ true → P m ⊎ P n → P (cond (leb m.cost n.cost) m n)) where
  push_some : (l : List Node) (n : Node) → Some P l ⊎ P n → Some P (push l n)
  unfolding push
  push_some [] n (inl r) = elim r [ ]
  push_some [] n (inr p) = here p
  push_some (m ∷ ms) n q = go (same_state m.state n.state) refl (push_some ms n) q
    where
      go : (b : Bool) → same_state m.state n.state ≡ b → (Some P ms ⊎ P n → Some P (push ms n)) → Some P (m ∷ ms) ⊎ P n → Some P (push (m ∷ ms) n)
      go true e f (inl (here p)) = let q = cheaper m n e (inl p) in rw (e, push) (here q)
      go true e f (inl (there r)) = rw (e, push) (there r)
      go true e f (inr p) = let q = cheaper m n e (inr p) in rw (e, push) (here q)
      go false e f (inl (here p)) = rw (e, push) (here p)
      go false e f (inl (there r)) = let q = f (inl r) in rw (e, push) (there q)
      go false e f (inr p) = let q = f (inr p) in rw (e, push) (there q)

  pub all_some : (l ns : List Node) → Some P l ⊎ Some P ns → Some P (push_all l ns)
  unfolding push_all
  all_some l [] (inr r) = elim r [ ]
  all_some l [] (inl r) = r
  all_some l (n ∷ ns) (inl r) = all_some (push l n) ns (inl (push_some l n (inl r)))
  all_some l (n ∷ ns) (inr (here p)) = all_some (push l n) ns (inl (push_some l n (inr p)))
  all_some l (n ∷ ns) (inr (there r)) = all_some (push l n) ns (inr r)
