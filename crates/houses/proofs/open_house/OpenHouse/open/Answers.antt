use Rattle.std.proofs.Common.{◌≤◌, refl, ap, ◌∙◌, arith, rules}
use Rattle.plan.specs.Plans.{plan_of}
use Rattle.openings.specs.Amounts.{amounts_of}
use Rattle.houses.specs.Meanings.{parts_in}
use Rattle.houses.proofs.News.{opens, opened, no_call}
use Rattle.houses.proofs.Uses.{first_use, keeps-promise}
use Rattle.houses.proofs.open_house.OpenHouse.open.Goals as goal

pub unwrap-house-requires : goal.unwrap-house-requires
unwrap-house-requires c =
    let low : c.rooms-2.result ≤ 4 = omega (arith, c.if-rooms-gt4.false, c.rooms.ensures.value, c.rooms-2.ensures.value) in
    opens c.args.memory c.args.plan c.with_kind.result c.open_books-books.result (amounts_of c.args.opening) _ c.with_kind.ensures.ledger (c.open_books-books.ensures.whole low) c.rooms-2.ensures.value _ c.open.ensures.cases

pub invariant_of-result : goal.invariant_of-result
invariant_of-result c =
    let low : c.rooms-2.result ≤ 4 = omega (arith, c.if-rooms-gt4.false, c.rooms.ensures.value, c.rooms-2.ensures.value) in
    let opening = amounts_of c.args.opening in
    let house = c.unwrap-house.result in
    let new = opened c.args.memory c.args.plan c.with_kind.result c.open_books-books.result opening _ c.with_kind.ensures.ledger (c.open_books-books.ensures.whole low) c.rooms-2.ensures.value _ house c.unwrap-house.ensures c.open.ensures.cases in
    let none = no_call c.args.memory c.args.plan c.with_kind.result c.open_books-books.result opening _ c.with_kind.ensures.ledger (c.open_books-books.ensures.whole low) c.rooms-2.ensures.value house new in
    record { used = first_use opening (plan_of c.args.plan) (parts_in house) none }

pub returns : goal.returns
returns c =
    let low : c.rooms-2.result ≤ 4 = omega (arith, c.if-rooms-gt4.false, c.rooms.ensures.value, c.rooms-2.ensures.value) in
    let opening = amounts_of c.args.opening in
    let house = c.unwrap-house.result in
    let new = opened c.args.memory c.args.plan c.with_kind.result c.open_books-books.result opening _ c.with_kind.ensures.ledger (c.open_books-books.ensures.whole low) c.rooms-2.ensures.value _ house c.unwrap-house.ensures c.open.ensures.cases in
    let none = no_call c.args.memory c.args.plan c.with_kind.result c.open_books-books.result opening _ c.with_kind.ensures.ledger (c.open_books-books.ensures.whole low) c.rooms-2.ensures.value house new in
    let small = c.if-rooms-gt4.false in
    let rooms = c.rooms.ensures.value in
    record {
      taken = search rules;
      new = record {
        plan_is = ap plan_of new.plan_is;
        policy_is = ap (λ w. w.policy) new.wire_is ∙ c.with_kind.ensures.policy;
        opening_is = refl;
        no_call = none;
        promise = keeps-promise opening (parts_in house) (first_use opening (plan_of c.args.plan) (parts_in house) none);
      };
    }
