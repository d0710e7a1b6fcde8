-- Opening a room of a sealed plan.
use Rattle.std.specs.Prelude.{◌≡◌, ℕ, [], ◌∷◌, Some, None, Ok, Err, Option, Result, nat_le}
use Rattle.refusals.specs.Causes.{first_cause}
use Rattle.refusals.specs.declared.refusal.Refusal.{Refusal}
use Rattle.refusals.specs.declared.refusal.Refusal.TheVariants.{OutOfRange}
use Rattle.plan.specs.Plan.{Plan}
use Rattle.plan.specs.Plans.{plan_of}
use Rattle.plan.specs.declared.sealed.SealedPlan.{SealedPlan}
use Rattle.agreement.specs.Rooms.{new_room}
use Rattle.rooms.specs.declared.memory.RoomMemory.{RoomMemory}
use Rattle.rooms.specs.declared.opening.Unopened.{Unopened}
use Rattle.rooms.specs.declared.room.Room.{Room as CodeRoom}
use Rattle.rooms.specs.Views.{room_of}

-- why a room is not opened: the plan has no such room
abbrev pub open_cause : Plan → ℕ → Option Refusal
open_cause plan number = first_cause ((nat_le plan.rooms number, OutOfRange) ∷ [])

-- an opened room has its number, and is a new one
pub record Opened (plan : Plan) (number : ℕ) (r : CodeRoom) : Type 0 where
  pub cause : open_cause plan number ≡ None
  pub number_is : r.number ≡ number
  pub room : room_of r ≡ new_room

-- a refused opening gives the right cause, and hands the memory back as it was
pub record HandedBack (plan : Plan) (number : ℕ) (memory : RoomMemory) (e : Unopened) : Type 0 where
  pub cause : open_cause plan number ≡ Some e.refusal
  pub same : e.memory ≡ memory

abbrev pub Opening : SealedPlan → ℕ → RoomMemory → Result CodeRoom Unopened → Type 0
Opening plan number memory (Ok r) = Opened (plan_of plan) number r
Opening plan number memory (Err e) = HandedBack (plan_of plan) number memory e
