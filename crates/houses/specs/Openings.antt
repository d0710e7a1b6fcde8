-- Opening a house.
use Rattle.std.specs.Prelude.{◌≡◌, [], ◌∷◌, Some, None, Ok, Err, Option, Result, nat_lt}
use Rattle.refusals.specs.Causes.{first_cause}
use Rattle.refusals.specs.declared.refusal.Refusal.{Refusal}
use Rattle.refusals.specs.declared.refusal.Refusal.TheVariants.{OutOfRange}
use Rattle.stock.specs.Stock.{Amounts}
use Rattle.plan.specs.Plan.{Plan}
use Rattle.plan.specs.Plans.{plan_of}
use Rattle.plan.specs.declared.sealed.SealedPlan.{SealedPlan}
use Rattle.openings.specs.Amounts.{amounts_of}
use Rattle.openings.specs.declared.opening.Opening.{Opening}
use Rattle.wires.specs.AnyPolicies.{any_fresh}
use Rattle.wires.specs.declared.kind.WireKind.{WireKind}
use Rattle.house.specs.Views.{Held}
use Rattle.houses.specs.declared.memory.OpeningMemory.{OpeningMemory}
use Rattle.houses.specs.declared.open_house.OpenHouse.{OpenHouse}
use Rattle.houses.specs.declared.opening.NotOpened.{NotOpened}
use Rattle.houses.specs.Homes.{Home, home_of, KeepsPromise}
use Rattle.houses.specs.Led.{given}

-- why a house is not opened: its plan is for more than four rooms
abbrev pub opening_cause : Plan → Option Refusal
opening_cause plan = first_cause ((nat_lt 4 plan.rooms, OutOfRange) ∷ [])

-- a house that had no call yet: its plan, a wire whose rule has made no choice, and new books
pub record New (plan : Plan) (kind : WireKind) (opening : Amounts) (h : Home) : Type 0 where
  pub plan_is : h.parts.plan ≡ plan
  pub policy_is : h.policy ≡ any_fresh kind
  pub opening_is : h.opening ≡ opening
  pub no_call : ∥ Held (given plan opening) [] h.parts ∥₁
  pub promise : KeepsPromise h

pub record Opened (plan : SealedPlan) (kind : WireKind) (opening : Opening) (h : OpenHouse) : Type 0 where
  pub taken : opening_cause (plan_of plan) ≡ None
  pub new : New (plan_of plan) kind (amounts_of opening) (home_of h)

-- what is not opened comes back as it was, with the cause
pub record HandedBack (memory : OpeningMemory) (plan : SealedPlan) (opening : Opening) (e : NotOpened) : Type 0 where
  pub why : opening_cause (plan_of plan) ≡ Some e.refusal
  pub plan_is : e.plan ≡ plan
  pub memory_is : e.memory ≡ memory
  pub opening_is : e.opening ≡ opening

abbrev pub Opens : OpeningMemory → SealedPlan → WireKind → Opening → Result OpenHouse NotOpened → Type 0
Opens memory plan kind opening (Ok h) = Opened plan kind opening h
Opens memory plan kind opening (Err e) = HandedBack memory plan opening e
