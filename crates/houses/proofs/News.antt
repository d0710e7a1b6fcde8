-- Nothing is against a house with new books on a new wire, and it had no call yet.
use Rattle.std.proofs.Math.Logic.{∥∥₁_elim}
use mathlib.Core.Logic.{∥∥₁_map}
use denote.Struct.Props.{props}
use Rattle.std.proofs.Common.{◌≡◌, ℕ, zero, suc, true, eqb, List, [], map, length, None, Ok, Err, vec_items, Result, Vec, sym, refl, ap, subst, ◌∙◌, arith}
use Rattle.std.specs.Result.{IsOk}
use Rattle.std.specs.declared.alloc.Global.{Global}
use Rattle.std.proofs.lemmas.Bool.{and_from, eq-eqb}
use Rattle.lists.specs.Words.{all, rising}
use Rattle.lists.proofs.Members.{all_from}
use Rattle.stock.specs.Stock.{Amounts, Stock}
use Rattle.plan.specs.Plan.{Plan}
use Rattle.plan.specs.Plans.{plan_of}
use Rattle.plan.specs.declared.sealed.SealedPlan.{SealedPlan}
use Rattle.wire.specs.Wire.{Wire, new_wire}
use Rattle.house.specs.declared.house.House.{House}
use Rattle.house.specs.declared.unopened.Unopened.{Unopened}
use Rattle.house.specs.Openings.{given_of, same_amounts, all_equal, open_reason, Opened, Opening}
use Rattle.house.specs.Views.{Held}
use Rattle.openings.specs.Books.{new_book}
use Rattle.houses.specs.Books.{new_books}
use Rattle.houses.specs.Led.{given}
use Rattle.houses.specs.Meanings.{wire_meaning, parts_in}
use Rattle.houses.specs.declared.memory.OpeningMemory.{OpeningMemory}
use Rattle.stock.specs.StockBook.{book_holds}
use Rattle.stock.specs.declared.stock_book.StockBook.{StockBook}
use Rattle.wires.specs.Meaning.{meaning_of}
use Rattle.wires.specs.declared.any_policy.AnyPolicy.{AnyPolicy}
use Rattle.wires.specs.declared.policy_wire.PolicyWire.{PolicyWire}

books-count : (opening : Amounts) (start n : ℕ) → length (map (new_book opening) (rising start n)) ≡ n
books-count opening start zero = refl
books-count opening start (suc n) = ap suc (books-count opening (suc start) n)

same_held : (a b : Stock) → a.amounts ≡ b.amounts → same_amounts a b ≡ true
unfolding same_amounts
same_held a b e = all_from (λ x. eqb (a.amounts x) (b.amounts x)) (rising 0 32) (λ x _. eq-eqb _ _ (ap (λ (m : Amounts). m x) e))

-- books that hold the opening amounts hold those of any such book
alike : (opening : Amounts) (b : Stock) → b.amounts ≡ opening → (start n : ℕ) → all (λ a. same_amounts a b) (map (new_book opening) (rising start n)) ≡ true
alike opening b is start zero = refl
alike opening b is start (suc n) = and_from _ _ (same_held (new_book opening start) b (sym is)) (alike opening b is (suc start) n)

all_alike : (opening : Amounts) (n : ℕ) → all_equal (new_books n opening) ≡ true
all_alike opening zero = refl
all_alike opening (suc n) = alike opening (new_book opening 0) refl 0 (suc n)

none_against : (plan : Plan) (wire : Wire) (books : List Stock) (opening : Amounts) → wire ≡ new_wire → books ≡ new_books plan.rooms opening → open_reason plan wire books ≡ None
none_against plan wire books opening new are =
    let count : eqb (length (new_books plan.rooms opening)) plan.rooms ≡ true = eq-eqb _ _ (books-count opening 0 plan.rooms) in
    rw (new, are, count, all_alike opening plan.rooms) refl

-- a house that is opened over a new wire, with the books that its memory gives
module _ (memory : OpeningMemory) (plan : SealedPlan) (wire : PolicyWire AnyPolicy) (books : Vec StockBook Global) (opening : Amounts) (rooms : ℕ) (ledger : wire.ledger ≡ memory.wire.ledger) (held : map book_holds (vec_items books) ≡ new_books rooms opening) (count : rooms ≡ (plan_of plan).rooms) where
  new_wire_there : ∥ wire_meaning wire ≡ new_wire ∥₁
  new_wire_there = ∥∥₁_map memory.wire_new (λ e. ap meaning_of ledger ∙ e)

  books_there : map book_holds (vec_items books) ≡ new_books (plan_of plan).rooms opening
  books_there = held ∙ ap (λ n. new_books n opening) count

  pub opens : (r : Result (House (PolicyWire AnyPolicy) StockBook) (Unopened (PolicyWire AnyPolicy) StockBook)) → Opening wire_meaning book_holds plan wire books memory.rooms r → IsOk r
  opens (Ok h) o = refl
  opens (Err e) o = absurd (∥∥₁_elim new_wire_there (hlevel props) (λ new. let z : ◌≡◌ {A = ℕ} 0 1 = (let clash = sym o.why ∙ none_against (plan_of plan) (wire_meaning wire) (map book_holds (vec_items books)) opening new books_there in cc) in omega arith))

  pub opened : (r : Result (House (PolicyWire AnyPolicy) StockBook) (Unopened (PolicyWire AnyPolicy) StockBook)) (h : House (PolicyWire AnyPolicy) StockBook) → r ≡ Ok h → Opening wire_meaning book_holds plan wire books memory.rooms r → Opened wire_meaning book_holds plan wire books h
  opened r h is o = subst (Opening wire_meaning book_holds plan wire books memory.rooms) is o

  pub no_call : (h : House (PolicyWire AnyPolicy) StockBook) → Opened wire_meaning book_holds plan wire books h → ∥ Held (given (plan_of plan) opening) [] (parts_in h) ∥₁
  no_call h o = ∥∥₁_map new_wire_there (λ new. subst (λ (bs : List Stock). Held (given_of (plan_of plan) bs) [] (parts_in h)) books_there (o.held new))
