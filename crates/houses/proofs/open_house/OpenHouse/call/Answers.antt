use Rattle.std.proofs.Common.{◌≡◌, refl, ap}
use Rattle.stock.specs.declared.stock_book.StockBook.{StockBook}
use Rattle.openings.specs.Amounts.{amounts_of}
use Rattle.wires.specs.declared.any_policy.AnyPolicy.{AnyPolicy}
use Rattle.wires.specs.declared.policy_wire.PolicyWire.{PolicyWire}
use Rattle.house.specs.Listing.{answer_of}
use Rattle.house.specs.declared.house.House.{House}
use Rattle.houses.specs.Homes.{Home}
use Rattle.houses.specs.Meanings.{parts_in}
use Rattle.houses.proofs.Sames.{same_along}
use Rattle.houses.proofs.Uses.{next_use, keeps-promise}
use Rattle.houses.proofs.open_house.OpenHouse.call.Goals as goal

pub invariant_of-self : goal.invariant_of-self
invariant_of-self c = record { used = next_use (amounts_of c.args.self.now.opening) _ _ _ _ c.call.ensures.steps c.args.self.now.used }

pub returns : goal.returns
returns c =
    let opening = amounts_of c.args.self.now.opening in
    let home : House (PolicyWire AnyPolicy) StockBook → Home = λ h. record { parts = parts_in h; policy = h.wire.policy; opening = opening } in
    record {
      steps = c.call.ensures.steps;
      choice = c.call.ensures.choice;
      same = same_along (answer_of c.call.result) _ _ (λ (e : c.call.new.self ≡ c.args.self.now.house). ap home e) c.call.ensures.same;
      opening = refl;
      promise = keeps-promise opening _ (next_use opening _ _ _ _ c.call.ensures.steps c.args.self.now.used);
    }
