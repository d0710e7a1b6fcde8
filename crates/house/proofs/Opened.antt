-- A house that opens: its rooms have their numbers and are new, and over a new wire it is the house just opened, since all books
-- hold the first one's amounts.
use Rattle.std.proofs.Common.{◌≡◌, ℕ, zero, suc, ◌+◌, ◌<◌, Bool, true, false, cond, not, eqb, List, [], ◌∷◌, ◌++◌, map, length, get_or, Some, None, sym, refl, ap, ◌∙◌, subst, arith}
use mathlib.Core.Path.{fun_ext}
use Rattle.std.proofs.lemmas.Bool.{eqb-true}
use Rattle.lists.specs.Words.{rising}
use Rattle.stock.specs.Stock.{Amounts, Stock, Sound}
use Rattle.plan.specs.Plan.{Plan, plan_right}
use Rattle.wire.specs.Wire.{Wire, new_wire}
use Rattle.agreement.specs.Rooms.{Room, new_room}
use Rattle.agreement.specs.Houses.{Given, House, opened}
use Rattle.agreement.specs.Calls.{Performed, opens}
use Rattle.house.specs.declared.unopened.WhyUnopened.{WhyUnopened}
use Rattle.house.specs.declared.unopened.WhyUnopened.TheVariants.{BookCount, UnequalBooks}
use Rattle.house.specs.Views.{view, Held}
use Rattle.house.specs.Openings.{no_book, given_of, same_amounts, all_equal, open_reason, AllNew}
use Rattle.house.proofs.Equals.{each_place, same_whole}

pub rising-push : (start count : ℕ) → rising start count ++ (start + count) ∷ [] ≡ rising start (count + 1)
rising-push start zero = let e : start + 0 ≡ start = omega arith in ap (λ n. n ∷ []) e
rising-push start (suc count) =
    let e : start + suc count ≡ suc start + count = omega arith in
    let c : suc count + 1 ≡ suc (count + 1) = omega arith in
    ap (λ (l : List ℕ). start ∷ l) (ap (λ n. rising (suc start) count ++ n ∷ []) e ∙ rising-push (suc start) count) ∙ sym (ap (rising start) c)

pub new-push : (rooms : List Room) (r : Room) → AllNew rooms → r ≡ new_room → AllNew (rooms ++ r ∷ [])
new-push [] r h e zero = e
new-push [] r h e (suc k) = refl
new-push (x ∷ rooms) r h e zero = h 0
new-push (x ∷ rooms) r h e (suc k) = new-push rooms r (λ k. h (suc k)) e k

-- no reason against: each test comes out well
check : (t : Bool) (why : WhyUnopened) (rest : Rattle.std.specs.declared.option.Option.Option WhyUnopened) → cond (not t) (Some why) rest ≡ None → (t ≡ true) × (rest ≡ None)
check true why rest h = (refl, h)
check false why rest h = let z : ◌≡◌ {A = ℕ} 0 1 = cc in absurd (omega arith)

module _ (plan : Plan) (wire : Wire) (books : List Stock) (taken : open_reason plan wire books ≡ None) where
  pub books-count : length books ≡ plan.rooms
  books-count = eqb-true _ _ (check (eqb (length books) plan.rooms) BookCount _ taken).0

  books-equal : all_equal books ≡ true
  books-equal = (check (all_equal books) UnequalBooks _ (check (eqb (length books) plan.rooms) BookCount _ taken).1).0

  module _ (right : plan_right plan ≡ true) (sound : (k : ℕ) → Sound (get_or books k no_book)) where
    abbrev g : Given
    g = given_of plan books

    amounts_are : (k : ℕ) → k < length books → (get_or books k no_book).amounts ≡ g.opening
    amounts_are k low = same_whole _ _ (sound k) (sound 0) (each_place (λ b. same_amounts b (get_or books 0 no_book)) no_book books books-equal k low)

    -- each book is as the house has it at the start
    book_opens : (l : List Stock) (o : Amounts) → ((k : ℕ) → k < length l → (get_or l k no_book).amounts ≡ o) → (k : ℕ) → get_or l k (record { amounts = o; spare = (get_or l k no_book).spare }) ≡ record { amounts = o; spare = (get_or l k no_book).spare }
    book_opens [] o h k = refl
    book_opens (b ∷ l) o h zero = λ i. record { amounts = h 0 (let z : 0 < length (b ∷ l) = omega arith in z) i; spare = b.spare }
    book_opens (b ∷ l) o h (suc k) = book_opens l o (λ k low. h (suc k) (omega (arith, low))) k

    pub opens_held : (rooms : List Room) → AllNew rooms → wire ≡ new_wire → Held g [] (record { plan = plan; wire = wire; rooms = rooms; books = books })
    opens_held rooms new fresh = record {
      plan = refl;
      performed =
          let R = fun_ext new in let S = fun_ext (book_opens books g.opening amounts_are) in
          let is : view g (record { plan = plan; wire = wire; rooms = rooms; books = books }) ≡ opened g = λ i. record { wire = fresh i; room = R i; book = S i } in
          subst (λ (h : House). Performed g [] h) (sym is) (opens (record { plan = right; books = λ k. record { small = (sound 0).small; none_above = (sound 0).none_above } }));
    }

pub all_sound : {B : Type 0} (holds : B → Stock) → ((b : B) → Sound (holds b)) → (books : List B) (k : ℕ) → Sound (get_or (map holds books) k no_book)
all_sound holds s [] k = record { small = λ x. omega arith; none_above = λ x h. refl }
all_sound holds s (b ∷ books) zero = s b
all_sound holds s (b ∷ books) (suc k) = all_sound holds s books k
