-- The layer of the definition that a layer in the store represents, while nodes are pushed into it.
use Rattle.std.specs.Prelude.{ℕ, ◌+◌, ◌-◌, ◌*◌, ◌/◌, ◌%◌, ◌≤◌, ◌<◌, ◌≡◌, List, length, get_or}
use Rattle.base.specs.Lists.{All}
use Rattle.coding.specs.Candidates.{Cand}
use Rattle.coding.specs.Search.{Node, push_all}
use Rattle.encode_states.specs.Packed.{Proper}
use Rattle.encode_layer.specs.declared.Entry.{Entry}
use Rattle.encode_layer.specs.Entries.{entry, entries, entries_of, layer_of}

-- a node of a state that the coder can reach, that costs at most `most`
pub record Sound (most : ℕ) (e : Entry) : Type 0 where
  pub proper : Proper e.state
  pub cheap : e.cost ≤ most

-- no two nodes have one state
abbrev pub Distinct : List Entry → Type 0
Distinct es = (i j : ℕ) → i < length es → j < length es → (get_or es i (entry 0 0 0)).state ≡ (get_or es j (entry 0 0 0)).state → i ≡ j

-- The index: a state has a bucket, a bucket has a head, and a node has the next node of its bucket, all in the fourth numbers of a part's nodes. The b-th
-- of them has in its upper 16 bits the place of the b-th bucket's head, taken from 65,535, so that 0 is no place; and the fourth number of a node of the
-- layer has in its lower 16 bits the place of the next.
unfoldable pub bucket_of : ℕ → ℕ → ℕ
bucket_of buckets state = state * 81007 % 131072 * buckets / 131072

abbrev pub head_at : List ℕ → ℕ → ℕ
head_at s b = 65535 - get_or s (b * 4 + 3) 0 / 65536

-- of the i-th node of the layer that begins at the node from
abbrev pub next_at : List ℕ → ℕ → ℕ → ℕ
next_at s from i = get_or s ((from + i) * 4 + 3) 0 % 65536

-- from the p-th node on, each being before the one that names it, the i-th is come to
pub data Leads (next : ℕ → ℕ) (i : ℕ) : ℕ → Type 0 where
  here : {p : ℕ} → p ≡ i → Leads next i p
  further : {p : ℕ} → next p < p → Leads next i (next p) → Leads next i p

-- a node is found from the head of its bucket. What other buckets have for a head is no matter: a node counts only if it has the state
pub record Chained (s : List ℕ) (from count head i : ℕ) : Type 0 where
  pub begins : head < count
  pub leads : Leads (next_at s from) i head

abbrev pub Indexed : List ℕ → ℕ → ℕ → ℕ → Type 0
Indexed s from buckets count = (i : ℕ) → i < count → Chained s from count (head_at s (bucket_of buckets (get_or s ((from + i) * 4) 0))) i

-- what `find` answers of the chain that begins with `first`: the place of a node that has the state, or that none to which the chain leads has it
pub record Finds (s : List ℕ) (from count first state r : ℕ) : Type 0 where
  pub has : r < count → get_or s ((from + r) * 4) 0 ≡ state
  pub none : count ≤ r → (i : ℕ) → i < count → get_or s ((from + i) * 4) 0 ≡ state → Chained s from count first i → ⊥

-- the node after count nodes has become the head of the bucket b, before `first`; nothing else of chains and nodes is changed
pub record Entered (s s' : List ℕ) (from count b first : ℕ) : Type 0 where
  pub nodes : entries s' ≡ entries s
  pub head : head_at s' b ≡ count
  pub heads : (v : ℕ) → (v ≡ b → ⊥) → head_at s' v ≡ head_at s v
  pub next : next_at s' from count ≡ first
  pub nexts : (i : ℕ) → (i ≡ count → ⊥) → next_at s' from i ≡ next_at s from i

-- the bounds of a layer: its first node's place, how many nodes have room, how many buckets there are, and the most that a node may cost
pub record Bounds : Type 0 where
  pub from : ℕ
  pub cap : ℕ
  pub buckets : ℕ
  pub most : ℕ

abbrev pub bounds : ℕ → ℕ → ℕ → ℕ → Bounds
bounds from cap buckets most = record { from = from; cap = cap; buckets = buckets; most = most }

-- the layer's count nodes in the store are the definition's
pub record Held (cs : List Cand) (r : Bounds) (s : List ℕ) (count : ℕ) (l : List Node) : Type 0 where
  pub fits : count ≤ r.cap
  pub layer : layer_of cs s r.from count ≡ l
  pub distinct : Distinct (entries_of s r.from count)
  pub indexed : Indexed s r.from r.buckets count
  pub sound : All (Sound r.most) (entries_of s r.from count)

-- they are more than have room. The coder has no more than 48,384 states
pub record Over (r : Bounds) (count : ℕ) (l : List Node) : Type 0 where
  pub full : count ≡ r.cap + 1
  pub more : r.cap < length l
  pub small : r.cap ≤ 48384

pub data Represents (cs : List Cand) (r : Bounds) (s : List ℕ) (count : ℕ) (l : List Node) : Type 0 where
  held : Held cs r s count l → Represents cs r s count l
  over : Over r count l → Represents cs r s count l

-- what is done to a layer: whatever it represented, it represents what f makes of that; and the nodes before it are as they were
pub record Changes (cs : List Cand) (r : Bounds) (s : List ℕ) (count : ℕ) (s' : List ℕ) (count' : ℕ) (f : List Node → List Node) : Type 0 where
  pub stands : (l : List Node) → Represents cs r s count l → Represents cs r s' count' (f l)
  pub before : entries_of s' 0 r.from ≡ entries_of s 0 r.from

-- nodes are pushed
abbrev pub Pushes : List Cand → Bounds → List ℕ → ℕ → List ℕ → ℕ → List Node → Type 0
Pushes cs r s count s' count' ns = Changes cs r s count s' count' (λ l. push_all l ns)
