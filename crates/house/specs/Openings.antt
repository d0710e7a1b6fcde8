-- Opening a house: with which plan, wire and books, and what is opened then.
use Rattle.std.specs.Prelude.{◌≡◌, ℕ, Bool, cond, not, List, [], map, length, get_or, Some, None, Ok, Err, vec_items, Option, Result, Vec, ◌==◌, nat_eq, slice_index_or}
use Rattle.std.specs.declared.alloc.Global.{Global}
use Rattle.lists.specs.Words.{all, rising}
use Rattle.stock.specs.Stock.{Stock}
use Rattle.plan.specs.Plan.{Plan}
use Rattle.plan.specs.Plans.{plan_of}
use Rattle.plan.specs.declared.sealed.SealedPlan.{SealedPlan}
use Rattle.wire.specs.Wire.{Wire, new_wire}
use Rattle.agreement.specs.Rooms.{Room, new_room}
use Rattle.agreement.specs.Houses.{Given}
use Rattle.rooms.specs.Views.{room_of}
use Rattle.house.specs.declared.house.House.{House as CodeHouse}
use Rattle.house.specs.declared.memory.HouseMemory.{HouseMemory}
use Rattle.house.specs.declared.unopened.WhyUnopened.{WhyUnopened}
use Rattle.house.specs.declared.unopened.WhyUnopened.TheVariants.{BookCount, UnequalBooks, UsedWire}
use Rattle.house.specs.declared.unopened.Unopened.{Unopened}
use Rattle.house.specs.Views.{parts_of, Held}

-- what stands for a missing book
abbrev pub no_book : Stock
no_book = record { amounts = (λ _. 0); spare = 0 }

-- what a house is opened with: a plan, the amounts of the first book, and each book's spare entries
abbrev pub given_of : Plan → List Stock → Given
given_of plan books = record { plan = plan; opening = (get_or books 0 no_book).amounts; spare = (λ k. (get_or books k no_book).spare) }

-- two books hold the same amount of each of the 32 bases
unfoldable pub same_amounts : Stock → Stock → Bool
same_amounts a b = all (λ x. nat_eq (a.amounts x) (b.amounts x)) (rising 0 32)

-- all books hold the amounts of the first
abbrev pub all_equal : List Stock → Bool
all_equal books = all (λ b. same_amounts b (slice_index_or books 0 no_book)) books

-- why a house is not opened, none where it is
abbrev pub open_reason : Plan → Wire → List Stock → Option WhyUnopened
open_reason plan wire books =
    cond (not (length books == plan.rooms)) (Some BookCount)
    (cond (not (all_equal books)) (Some UnequalBooks)
    (cond (not (length wire.posts == 0)) (Some UsedWire)
    None))

-- every room is a new one
abbrev pub AllNew : List Room → Type 0
AllNew rooms = (k : ℕ) → slice_index_or rooms k new_room ≡ new_room

module _ {W B : Type 0} (meaning : W → Wire) (holds : B → Stock) (plan : SealedPlan) (wire : W) (books : Vec B Global) where
  -- an opened house has what was handed over, and new rooms; over a new wire, it is one that had no call yet
  pub record Opened (h : CodeHouse W B) : Type 0 where
    pub taken : open_reason (plan_of plan) (meaning wire) (map holds (vec_items books)) ≡ None
    pub plan_is : h.plan ≡ plan
    pub wire_is : h.wire ≡ wire
    pub books_are : h.books ≡ books
    pub rooms-new : AllNew (map room_of (vec_items h.rooms))
    pub held : meaning wire ≡ new_wire → Held (given_of (plan_of plan) (map holds (vec_items books))) [] (parts_of meaning holds h)

  -- what is not opened comes back as it was, with the reason
  pub record HandedBack (memory : HouseMemory) (e : Unopened W B) : Type 0 where
    pub why : open_reason (plan_of plan) (meaning wire) (map holds (vec_items books)) ≡ Some e.why
    pub plan_is : e.plan ≡ plan
    pub wire_is : e.wire ≡ wire
    pub books_are : e.books ≡ books
    pub memory_is : e.memory ≡ memory

  abbrev pub Opening : HouseMemory → Result (CodeHouse W B) (Unopened W B) → Type 0
  Opening memory (Ok h) = Opened h
  Opening memory (Err e) = HandedBack memory e
