-- An open house: what it holds, and what its calls promise.
use Rattle.stock.specs.Stock.{Amounts}
use Rattle.openings.specs.Amounts.{amounts_of}
use Rattle.wires.specs.declared.any_policy.AnyPolicy.{AnyPolicy}
use Rattle.house.specs.Views.{Parts}
use Rattle.houses.specs.declared.open_house.OpenHouse.{OpenHouse}
use Rattle.houses.specs.Led.{Promised}
use Rattle.houses.specs.Meanings.{parts_in}

pub record Home : Type 0 where
  -- the plan, the wire, and each room with its book
  pub parts : Parts
  -- the rule by which the wire chooses, with the turn or the wish that it has come to
  pub policy : AnyPolicy
  -- the amounts that it was opened with
  pub opening : Amounts

abbrev pub home_of : OpenHouse → Home
home_of h = record { parts = parts_in h.house; policy = h.house.wire.policy; opening = amounts_of h.opening }

-- some list of calls led to it, and it keeps all that is promised after that list
abbrev pub KeepsPromise : Home → Type 0
KeepsPromise h = ∥ Promised h.opening h.parts ∥₁
