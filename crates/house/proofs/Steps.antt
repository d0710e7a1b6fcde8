-- A step of a house from a step of its wire or a look at its book. Whoever performed calls before performs one more; a refusal
-- that has its cause leaves the house as it was.
use Rattle.std.proofs.Common.{◌≡◌, ℕ, ◌<◌, ◌≤◌, true, false, ltb, leb, List, [], ◌∷◌, ◌++◌, Some, Ok, Err, Option, Result, refl, ◌∙◌, subst, inl, inr, arith}
use Rattle.std.proofs.lemmas.Bool.{cases_Bool, le-leb, lt-leb, le-ltb}
use Rattle.refusals.specs.declared.refusal.Refusal.{Refusal}
use Rattle.refusals.specs.declared.refusal.Refusal.TheVariants.{OutOfRange, SetUnplanned}
use Rattle.stock.specs.Stock.{Stock, amount_of}
use Rattle.plan.specs.Plan.{Plan, planned}
use Rattle.batches.specs.Batches.{Batch, batch_right}
use Rattle.wire.specs.Wire.{Wire}
use Rattle.wire.specs.Calls.{no_room, post_cause}
use Rattle.wire.specs.Promises.{Posting, Numbering}
use Rattle.agreement.specs.Rooms.{amount_cause}
use Rattle.agreement.specs.Houses.{Given}
use Rattle.agreement.specs.Calls.{Call, post, number, wish, amount, Answer, refused, done, at_room, cause, Answers, refuses, posts, numbers, wishes, tells, Performed, also}
use Rattle.agreement.proofs.Kept.{promise-kept}
use Rattle.agreement.proofs.Steady.{openable, rooms_low}
use Rattle.house.specs.Views.{Parts, view, Held, Step, Steps, answered, as_batch, as_amount}

-- the parts with another wire
abbrev pub with_wire : Parts → Wire → Parts
with_wire p w = record { plan = p.plan; wire = w; rooms = p.rooms; books = p.books }

module _ {g : Given} {calls : List (Call × Answer)} {p : Parts} (held : Held g calls p) where
  pub one_more : {call : Call} {answer : Answer} (q : Parts) → q.plan ≡ p.plan → Answers g (view g p) call answer (view g q) → Step g calls p call answer q
  one_more {call} {answer} q plan a =
      let performed : Performed g (calls ++ (call, answer) ∷ []) (view g q) = also held.performed a in
      record { answers = a; held = record { performed = performed; plan = plan ∙ held.plan }; promise = promise-kept g (calls ++ (call, answer) ∷ []) (view g q) performed }

  pub refused_step : {call : Call} (e : Refusal) → cause g (view g p) call ≡ Some e → Step g calls p call (refused e) p
  refused_step e why = one_more p refl (refuses why)

  pub in_plan : (k : ℕ) → k < p.plan.rooms → k < g.plan.rooms
  in_plan k low = subst (λ (P : Plan). k < P.rooms) held.plan low

-- a call of a room that there is not
pub outside : (p : Parts) (k : ℕ) (call : Call) (inner : Given → Option Refusal) → ((g : Given) → cause g (view g p) call ≡ at_room g.plan k (inner g)) → p.plan.rooms ≤ k → Steps p call (refused OutOfRange) p
outside p k call inner is high g calls held = refused_step held OutOfRange (is g ∙ (let t : leb g.plan.rooms k ≡ true = le-leb _ _ (subst (λ (P : Plan). P.rooms ≤ k) held.plan high) in rw t))

pub room-cause : (plan : Plan) (k : ℕ) (why : Option Refusal) → k < plan.rooms → at_room plan k why ≡ why
room-cause plan k why low = let f : leb plan.rooms k ≡ false = lt-leb _ _ low in rw f

module _ (p : Parts) (k : ℕ) (low : k < p.plan.rooms) (b : Batch) where
  -- a room that there is posts no batch of a set that the plan lacks
  pub unplanned : planned p.plan.lines b.set ≡ false → Steps p (post k b) (refused SetUnplanned) p
  unplanned none = λ g calls held.
      let f : leb g.plan.rooms k ≡ false = lt-leb _ _ (in_plan held k low) in
      let n : planned g.plan.lines b.set ≡ false = subst (λ (P : Plan). planned P.lines b.set ≡ false) held.plan none in
      refused_step held SetUnplanned (rw (f, n))

  -- the causes against another post are the wire's
  posting_cause : {g : Given} {calls : List (Call × Answer)} → Held g calls p → planned p.plan.lines b.set ≡ true → cause g (view g p) (post k b) ≡ post_cause p.wire k
  posting_cause {g} held some =
      let low-here = in_plan held k low in
      let few = rooms_low g.plan (openable g held.performed).plan in
      let f : leb g.plan.rooms k ≡ false = lt-leb _ _ low-here in
      let y : planned g.plan.lines b.set ≡ true = subst (λ (P : Plan). planned P.lines b.set ≡ true) held.plan some in
      let z : no_room k ≡ false = le-ltb 7 k (omega (arith, low-here, few)) in
      rw (f, y, z)

  pub post_steps : planned p.plan.lines b.set ≡ true → batch_right b ≡ true → (v : Wire) (r : Result ℕ Refusal) → Posting p.wire v k b r → Steps p (post k b) (answered as_batch r) (with_wire p v)
  post_steps some right v (Ok n) t = λ g calls held. rw (t.after, t.value) (one_more held _ refl (posts (posting_cause held some ∙ t.cause) right))
  post_steps some right v (Err e) t = λ g calls held. rw t.same (refused_step held e (posting_cause held some ∙ t.cause))

pub number-steps : (p : Parts) (v : Wire) (r : Result ℕ Refusal) → Numbering p.wire v r → Steps p number (answered as_batch r) (with_wire p v)
number-steps p v (Ok b) n g calls held = rw n.after (one_more held _ refl (numbers n.cause n.chosen))
number-steps p v (Err e) n g calls held = rw n.same (refused_step held e n.cause)

pub wish-steps : (p : Parts) (v : Wire) (b : ℕ) → v ≡ p.wire → Steps p (wish b) done (with_wire p v)
wish-steps p v b same g calls held = rw same (one_more held p refl wishes)

-- the answer of a book that holds what the house's book there does
pub amount-steps : (p : Parts) (k : ℕ) → k < p.plan.rooms → (s : Stock) → ((g : Given) → s ≡ (view g p).book k) → (x : ℕ) (r : Result ℕ Refusal) → r ≡ amount_of s x → Steps p (amount k x) (answered as_amount r) p
amount-steps p k low s is x r e g calls held = elim (cases_Bool (ltb 31 x)) [
  | inl t ↦ rw (e, t) (refused_step held _ (room-cause g.plan k (amount_cause x) (in_plan held k low) ∙ rw t))
  | inr f ↦ rw (e, f, is g) (one_more held p refl (tells (room-cause g.plan k (amount_cause x) (in_plan held k low) ∙ rw f)))
]
