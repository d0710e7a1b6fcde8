-- What the house order and the serial run keep to, said without the walk.
use Rattle.std.specs.Prelude.{◌≡◌, ℕ, Bool, true, false, ◌&&◌, ◌||◌, List, ◌∷◌, ◌++◌, ◌==◌, slice_index}
use Rattle.lists.specs.Words.{member, any, keep, first, before, Distinct}
use Rattle.stock.specs.Stock.{Amounts}
use Rattle.batches.specs.Runs.{run}
use Rattle.order.specs.Works.{Works, has_base, share, Right}
use Rattle.order.specs.Order.{goes_ahead, house_order, serial_run}

-- a is placed with q at the latest: it is q, or it goes ahead of q
abbrev pub goes_with : Works → (ℕ → List ℕ) → ℕ → ℕ → Bool
goes_with w heard a q = a == q || goes_ahead w heard a q

-- the place in the definitive list of the first entry that a goes with
abbrev pub turn : Works → (ℕ → List ℕ) → List ℕ → ℕ → ℕ
turn w heard definitive a = first (goes_with w heard a) definitive

-- that entry: a's serializer
unfoldable pub serializer : Works → (ℕ → List ℕ) → List ℕ → ℕ → ℕ
serializer w heard definitive a = slice_index definitive (turn w heard definitive a)

-- The law of the walk: what is placed, and before what.
pub record Ordered (w : Works) (heard : ℕ → List ℕ) (definitive order : List ℕ) : Type 0 where
  pub once : Distinct order
  -- exactly the batches that go with an entry are placed
  pub placed : (a : ℕ) → member a order ≡ any (goes_with w heard a) definitive
  -- a stands before b exactly if its serializer stands before b's, or both have one serializer and a stands before b in their master's list
  pub sorted : (a b : ℕ) → member a order ≡ true → member b order ≡ true →
      before order a b ≡ (before definitive (serializer w heard definitive a) (serializer w heard definitive b) ||
      (serializer w heard definitive a == serializer w heard definitive b && before (heard (w.master a)) a b))

-- where no list holds a batch twice, the house order keeps the law, and it is the only list that does
pub record OrderIsItsLaw : Type 0 where
  pub keeps : (w : Works) (heard : ℕ → List ℕ) (definitive : List ℕ) → ((m : ℕ) → Distinct (heard m)) → Distinct definitive →
      Ordered w heard definitive (house_order w heard definitive)
  pub alone : (w : Works) (heard : ℕ → List ℕ) (definitive order : List ℕ) → ((m : ℕ) → Distinct (heard m)) → Distinct definitive →
      Ordered w heard definitive order → order ≡ house_order w heard definitive

-- numbering more batches only appends to the order
abbrev pub NumberingAppends : Type 0
NumberingAppends = (w : Works) (heard : ℕ → List ℕ) (definitive more : List ℕ) →
    (new : List ℕ) × (house_order w heard (definitive ++ more) ≡ house_order w heard definitive ++ new)

-- a batch that shares no base with any that come after it might as well have run last
abbrev pub LateInsertion : Type 0
LateInsertion = (w : Works) → Right w → (front : List ℕ) (c : ℕ) (rest : List ℕ) → ((b : ℕ) → member b rest ≡ true → share w c b ≡ false) →
    (m : Amounts) → serial_run w (front ++ c ∷ rest) m ≡ (run (w.batch c) (serial_run w (front ++ rest) m)).after

-- a choice of batches is closed: with b it has each one before b that shares a base with b
abbrev pub Closed : Works → (ℕ → Bool) → List ℕ → Type 0
Closed w chosen order = (a b : ℕ) → before order a b ≡ true → share w a b ≡ true → chosen b ≡ true → chosen a ≡ true

-- two closed choices that agree on the batches with base x leave the same amount of x
abbrev pub ChoicesAgree : Type 0
ChoicesAgree = (w : Works) → Right w → (m : Amounts) (one other : ℕ → Bool) (order : List ℕ) → Distinct order → Closed w one order → Closed w other order →
    (x : ℕ) → ((b : ℕ) → member b order ≡ true → has_base w b x ≡ true → one b ≡ other b) →
    serial_run w (keep one order) m x ≡ serial_run w (keep other order) m x
