-- A house of the code as one of the definitions, and what its calls promise.
use Rattle.std.specs.Prelude.{◌≡◌, ℕ, List, [], ◌∷◌, ◌++◌, map, Ok, Err, vec_items, Option, Result, slice_index_or}
use Rattle.refusals.specs.declared.refusal.Refusal.{Refusal}
use Rattle.stock.specs.Stock.{Stock}
use Rattle.plan.specs.Plan.{Plan}
use Rattle.plan.specs.Plans.{plan_of}
use Rattle.batches.specs.declared.outcome.Outcome.{Outcome}
use Rattle.wire.specs.Wire.{Wire}
use Rattle.agreement.specs.Rooms.{Room}
use Rattle.agreement.specs.Houses.{Given, House, opened}
use Rattle.agreement.specs.Calls.{Call, Answer, refused, done, batch, settled, ran, amount_is, picked, Answers, Performed}
use Rattle.agreement.specs.Promises.{Promise}
use Rattle.rooms.specs.Views.{room_of}
use Rattle.house.specs.declared.house.House.{House as CodeHouse}

-- what a house of the code holds
pub record Parts : Type 0 where
  pub plan : Plan
  pub wire : Wire
  pub rooms : List Room
  pub books : List Stock

-- the wire and the books are of any kind: `meaning` and `holds` tell what they mean
abbrev pub parts_of : {W B : Type 0} → (W → Wire) → (B → Stock) → CodeHouse W B → Parts
parts_of meaning holds h = record { plan = plan_of h.plan; wire = meaning h.wire; rooms = map room_of (vec_items h.rooms); books = map holds (vec_items h.books) }

-- the house that they make up; where there is no room or no book, it is as it was opened
abbrev pub view : Given → Parts → House
view g p = record { wire = p.wire; room = (λ k. slice_index_or p.rooms k ((opened g).room k)); book = (λ k. slice_index_or p.books k ((opened g).book k)) }

-- A house that was opened with what is given, and then had these calls and no others.
pub record Held (g : Given) (calls : List (Call × Answer)) (p : Parts) : Type 0 where
  pub performed : Performed g calls (view g p)
  pub plan : p.plan ≡ g.plan

-- some calls, whatever they were, led to it
abbrev pub InUse : Parts → Type 0
InUse p = ∥ ((g : Given) × ((calls : List (Call × Answer)) × Held g calls p)) ∥₁

-- One more call: it was made as it is defined, and what it leaves keeps the promise.
pub record Step (g : Given) (calls : List (Call × Answer)) (p : Parts) (call : Call) (answer : Answer) (q : Parts) : Type 0 where
  pub answers : Answers g (view g p) call answer (view g q)
  pub held : Held g (calls ++ (call, answer) ∷ []) q
  pub promise : Promise g (calls ++ (call, answer) ∷ []) (view g q)

-- whatever the house was opened with, and whatever calls it had before
abbrev pub Steps : Parts → Call → Answer → Parts → Type 0
Steps p call answer q = (g : Given) (calls : List (Call × Answer)) → Held g calls p → Step g calls p call answer q

-- the same of houses of the code
abbrev pub Calling : {W B : Type 0} → (W → Wire) → (B → Stock) → CodeHouse W B → Call → Answer → CodeHouse W B → Type 0
Calling meaning holds h call answer q = Steps (parts_of meaning holds h) call answer (parts_of meaning holds q)

-- the answer of a call that may be refused, and tells its value as one
abbrev pub answered : {A : Type 0} → (A → Answer) → Result A Refusal → Answer
answered tells (Ok a) = tells a
answered tells (Err e) = refused e

-- a value as an answer

abbrev pub as_done : Unit {0} → Answer
as_done _ = done

abbrev pub as_batch : ℕ → Answer
as_batch b = batch b

abbrev pub as_settled : ℕ × ℕ × ℕ → Answer
as_settled a = settled a.0 a.1 a.2

abbrev pub as_ran : Outcome × ℕ → Answer
as_ran a = ran a.0 a.1

abbrev pub as_amount : ℕ → Answer
as_amount n = amount_is n

abbrev pub as_picked : Option ℕ → Answer
as_picked o = picked o
