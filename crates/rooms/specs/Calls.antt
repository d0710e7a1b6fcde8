-- What each call of a room promises, by how it ends: taken, and then there was no cause against it and this is the room, the
-- wire and the book after it; or refused, and then the cause is the first that holds and nothing changed.
-- Throughout, r is the room before the call and s the room after it, w and v the wire, m and n the book. The wire and the
-- book are of any kind: `meaning` and `holds` tell what they mean.
use Rattle.std.specs.Prelude.{◌≡◌, ℕ, ◌+◌, Bool, [], ◌∷◌, length, Some, None, Ok, Err, Option, Result, nat_le}
use Rattle.refusals.specs.Causes.{first_cause}
use Rattle.refusals.specs.declared.refusal.Refusal.{Refusal}
use Rattle.refusals.specs.declared.refusal.Refusal.TheVariants.{NothingWaits}
use Rattle.sets.specs.Sets.{size}
use Rattle.stock.specs.Stock.{Stock, Spends}
use Rattle.plan.specs.Plans.{plan_of}
use Rattle.plan.specs.declared.sealed.SealedPlan.{SealedPlan}
use Rattle.batches.specs.declared.outcome.Outcome.{Outcome}
use Rattle.wire.specs.Wire.{Wire}
use Rattle.wire.specs.Calls.{with_heard, with_taken, with_announced, with_received, next_entry, next_announcement, hear_cause, entry_cause, announce_cause, Chosen}
use Rattle.order.specs.Works.{set_of}
use Rattle.agreement.specs.Rooms.{Room, room_hear, room_settle, ahead_count, thrown_count, result_of, room_run, run_cause, marked_result, announcement_of, room_release, book_written, release_cause, room_install, install_cause}
use Rattle.rooms.specs.declared.room.Room.{Room as CodeRoom}
use Rattle.rooms.specs.Views.{room_of, works}

-- the causes of one check, and after them those of the next
abbrev pub or_else : Option Refusal → Option Refusal → Option Refusal
or_else (Some e) next = Some e
or_else None next = next

-- Hear.

-- the room has heard 256 batches, as many as are ever posted
abbrev pub full : Room → Bool
full r = nat_le 256 (length r.waiting + length r.settled + length r.installed)

-- why a room hears nothing: it has heard all that can be, or the wire tells it nothing
abbrev pub hearing_cause : Wire → ℕ → Room → Option Refusal
hearing_cause w k r = or_else (first_cause ((full r, NothingWaits) ∷ [])) (hear_cause w k)

module _ {W : Type 0} (meaning : W → Wire) where
  -- a call on the room and the wire that is refused
  pub record Refused (cause : Option Refusal) (e : Refusal) (r s : CodeRoom) (w v : W) : Type 0 where
    pub why : cause ≡ Some e
    pub room : s ≡ r
    pub wire : v ≡ w

  -- the wire chose a batch for the room, which went to the end of the waiting list
  pub record Heard (r s : CodeRoom) (w v : W) (b : ℕ) : Type 0 where
    pub taken : hearing_cause (meaning w) r.number (room_of r) ≡ None
    pub chosen : Chosen (meaning w) ((meaning w).tentative r.number) b
    pub wire : meaning v ≡ with_heard (meaning w) r.number b
    pub number : s.number ≡ r.number
    pub room : room_of s ≡ room_hear (room_of r) b

  abbrev pub Hearing : CodeRoom → CodeRoom → W → W → Result ℕ Refusal → Type 0
  Hearing r s w v (Ok b) = Heard r s w v b
  Hearing r s w v (Err e) = Refused (hearing_cause (meaning w) r.number (room_of r)) e r s w v

-- Settle.

module _ {W : Type 0} (meaning : W → Wire) (plan : SealedPlan) where
  -- the next definitive entry was settled, with those that go ahead of it; the answer is that batch, how many went ahead, and
  -- how many marks were thrown
  pub record Settled (r s : CodeRoom) (w v : W) (answer : ℕ × ℕ × ℕ) : Type 0 where
    pub taken : entry_cause (meaning w) r.number ≡ None
    pub batch : answer.0 ≡ next_entry (meaning w) r.number
    pub ahead : answer.1 ≡ ahead_count (works plan (meaning w)) r.number (room_of r) (next_entry (meaning w) r.number)
    pub thrown : answer.2 ≡ thrown_count (works plan (meaning w)) r.number (room_of r) (next_entry (meaning w) r.number)
    pub wire : meaning v ≡ with_taken (meaning w) r.number
    pub number : s.number ≡ r.number
    pub room : room_of s ≡ room_settle (works plan (meaning w)) r.number (room_of r) (next_entry (meaning w) r.number)

  abbrev pub Settling : CodeRoom → CodeRoom → W → W → Result (ℕ × ℕ × ℕ) Refusal → Type 0
  Settling r s w v (Ok answer) = Settled r s w v answer
  Settling r s w v (Err e) = Refused meaning (entry_cause (meaning w) r.number) e r s w v

module _ {W B : Type 0} (meaning : W → Wire) (holds : B → Stock) (plan : SealedPlan) where
  -- Run. Neither the wire nor the book changes.

  -- the batch was worked out from the book and marked; the answer is the outcome, and the failing step's place
  pub record Ran (r s : CodeRoom) (w : W) (m : B) (b : ℕ) (answer : Outcome × ℕ) : Type 0 where
    pub taken : run_cause (works plan (meaning w)) r.number (room_of r) b ≡ None
    pub outcome : answer.0 ≡ (result_of ((works plan (meaning w)).batch b) (holds m).amounts).outcome
    pub step : answer.1 ≡ (result_of ((works plan (meaning w)).batch b) (holds m).amounts).step
    pub number : s.number ≡ r.number
    pub room : room_of s ≡ room_run (works plan (meaning w)) (room_of r) (holds m) b

  pub record NotRun (r s : CodeRoom) (w : W) (b : ℕ) (e : Refusal) : Type 0 where
    pub why : run_cause (works plan (meaning w)) r.number (room_of r) b ≡ Some e
    pub room : s ≡ r

  abbrev pub Running : CodeRoom → CodeRoom → W → B → ℕ → Result (Outcome × ℕ) Refusal → Type 0
  Running r s w m b (Ok answer) = Ran r s w m b answer
  Running r s w m b (Err e) = NotRun r s w b e

  -- Release.

  -- why a batch is not released: for a cause of the room's own, or else one of the wire's against the announcement
  abbrev pub releasing_cause : CodeRoom → W → B → ℕ → Option Refusal
  releasing_cause r w m b = or_else (release_cause (works plan (meaning w)) r.number (room_of r) (holds m) b) (announce_cause (meaning w) r.number (announcement_of (room_of r) b))

  -- a call on the room, the wire and the book that is refused
  pub record AllRefused (cause : Option Refusal) (e : Refusal) (r s : CodeRoom) (w v : W) (m n : B) : Type 0 where
    pub why : cause ≡ Some e
    pub room : s ≡ r
    pub wire : v ≡ w
    pub book : n ≡ m

  -- the batch was announced, its amounts were written, and it went to the end of the installed list
  pub record Released (r s : CodeRoom) (w v : W) (m n : B) (b : ℕ) : Type 0 where
    pub taken : releasing_cause r w m b ≡ None
    pub wire : meaning v ≡ with_announced (meaning w) r.number (announcement_of (room_of r) b)
    pub book : holds n ≡ book_written (set_of (works plan (meaning w)) b) (marked_result (room_of r) b).amounts (holds n).spare (holds m)
    pub spare : Spends (size (set_of (works plan (meaning w)) b)) (holds m).spare (holds n).spare
    pub number : s.number ≡ r.number
    pub room : room_of s ≡ room_release (room_of r) b

  abbrev pub Releasing : CodeRoom → CodeRoom → W → W → B → B → ℕ → Result Unit Refusal → Type 0
  Releasing r s w v m n b (Ok _) = Released r s w v m n b
  Releasing r s w v m n b (Err e) = AllRefused (releasing_cause r w m b) e r s w v m n

  -- Install.

  abbrev pub installing_cause : CodeRoom → W → B → ℕ → Option Refusal
  installing_cause r w m sender = install_cause (plan_of plan).rooms (works plan (meaning w)) (meaning w) r.number (room_of r) (holds m) sender

  -- the sender's next announcement was taken, its amounts were written, and the batch went to the end of the installed list
  pub record Installed (r s : CodeRoom) (w v : W) (m n : B) (sender b : ℕ) : Type 0 where
    pub taken : installing_cause r w m sender ≡ None
    pub batch : b ≡ (next_announcement (meaning w) r.number sender).batch
    pub wire : meaning v ≡ with_received (meaning w) r.number sender
    pub book : holds n ≡ book_written (set_of (works plan (meaning w)) b) (next_announcement (meaning w) r.number sender).result.amounts (holds n).spare (holds m)
    pub spare : Spends (size (set_of (works plan (meaning w)) b)) (holds m).spare (holds n).spare
    pub number : s.number ≡ r.number
    pub room : room_of s ≡ room_install (room_of r) b

  abbrev pub Installing : CodeRoom → CodeRoom → W → W → B → B → ℕ → Result ℕ Refusal → Type 0
  Installing r s w v m n sender (Ok b) = Installed r s w v m n sender b
  Installing r s w v m n sender (Err e) = AllRefused (installing_cause r w m sender) e r s w v m n
