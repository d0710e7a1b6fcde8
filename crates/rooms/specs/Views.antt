-- The rooms of the code, as rooms, and what a room reads off its plan and its wire.
use Rattle.std.specs.Prelude.{ℕ, List, Some, vec_items, slice_index_or}
use Rattle.lists.specs.Words.{updated}
use Rattle.batches.specs.declared.outcome.RunResult.{RunResult}
use Rattle.plan.specs.Plan.{Plan}
use Rattle.plan.specs.Plans.{plan_of}
use Rattle.plan.specs.declared.sealed.SealedPlan.{SealedPlan}
use Rattle.wire.specs.Wire.{Wire, Posted}
use Rattle.order.specs.Works.{Works, works_of}
use Rattle.agreement.specs.Rooms.{Room}
use Rattle.rooms.specs.declared.record.Record.{Record}
use Rattle.rooms.specs.declared.room.Room.{Room as CodeRoom}
use Rattle.rooms.specs.Records.{blank}
use Rattle.rooms.specs.Lists.{numbers_of}

-- the record of a batch; a number past the table has a blank one
abbrev pub record_at : CodeRoom → ℕ → Record
record_at r b = slice_index_or (vec_items r.records) b blank

-- the room that one of the code stands for
abbrev pub room_of : CodeRoom → Room
room_of r = record {
  waiting = numbers_of r.waiting;
  settled = numbers_of r.settled;
  installed = numbers_of r.installed;
  mark = (λ b. (record_at r b).mark);
  serializer = (λ b. (record_at r b).serializer);
}

-- the batches that a wire has, with their masters under a plan
abbrev pub works : SealedPlan → Wire → Works
works plan w = works_of (plan_of plan) w.posts

-- what a room reads of its house: the plan, and the posted batches
pub record Reading : Type 0 where
  pub plan : Plan
  pub posts : List Posted

-- the batches that it reads of, with their masters
abbrev pub works_in : Reading → Works
works_in a = works_of a.plan a.posts

-- a room with a batch marked
abbrev pub room_marked : Room → ℕ → RunResult → Room
room_marked r b result = record { waiting = r.waiting; settled = r.settled; installed = r.installed; mark = updated r.mark b (Some result); serializer = r.serializer }
