-- The room and the book at a place of a house, and the house with others in their place.
use Rattle.std.proofs.Common.{◌≡◌, ℕ, zero, suc, ◌+◌, ◌<◌, false, cond, eqb, List, [], ◌∷◌, map, length, get_or, set, vec_items, sym, refl, ap, ◌∙◌, arith}
use mathlib.Core.Path.{fun_ext}
use Rattle.std.specs.Vec.{with_item}
use Rattle.std.proofs.lemmas.List.{map-set, get_or-map, set-get_or}
use Rattle.lists.specs.Words.{rising, updated}
use Rattle.stock.specs.Stock.{Stock}
use Rattle.plan.specs.Plans.{plan_of}
use Rattle.wire.specs.Wire.{Wire}
use Rattle.agreement.specs.Rooms.{Room, new_room}
use Rattle.agreement.specs.Houses.{Given, opened}
use Rattle.agreement.specs.Calls.{with_room, with_book}
use Rattle.rooms.specs.Views.{room_of}
use Rattle.rooms.specs.declared.room.Room.{Room as CodeRoom}
use Rattle.house.specs.Numbers.{room_number}
use Rattle.house.specs.declared.house.House.{House as CodeHouse}
use Rattle.house.specs.Views.{Parts, parts_of, view}
use Rattle.house.proofs.Sames.{same_house, with_item_same}

-- a list with one element replaced, read at any place
pub get_d_set : {X : Type 0} (l : List X) (k : ℕ) (v d : X) → k < length l → (n : ℕ) → get_or (set l k v) n d ≡ cond (eqb n k) v (get_or l n d)
get_d_set [] k v d h n = absurd (omega arith)
get_d_set (x ∷ xs) zero v d h zero = refl
get_d_set (x ∷ xs) zero v d h (suc n) = let z : eqb (suc n) 0 ≡ false = grind arith in rw z
get_d_set (x ∷ xs) (suc k) v d h zero = let z : eqb 0 (suc k) ≡ false = grind arith in rw z
get_d_set (x ∷ xs) (suc k) v d h (suc n) = get_d_set xs k v d (omega arith) n ∙ ap (λ b. cond b v (get_or xs n d)) (step n k)
  where
    step : (n k : ℕ) → eqb n k ≡ eqb (suc n) (suc k)
    step n k = grind arith

pub get_or-rising : (start count k d : ℕ) → k < count → get_or (rising start count) k d ≡ start + k
get_or-rising start zero k d h = absurd (omega arith)
get_or-rising start (suc count) zero d h = omega arith
get_or-rising start (suc count) (suc k) d h = let z = get_or-rising (suc start) count k d (omega arith) in omega (arith, z)

-- a list read through a function, at a place and with that place replaced
module _ {X Y : Type 0} (f : X → Y) (xs : List X) (k : ℕ) (low : k < length xs) (x : X) (is : x ≡ get_or xs k x) where
  pub read_is : (d : Y) → f x ≡ get_or (map f xs) k d
  read_is d = ap f is ∙ sym (get_or-map f xs k x d low)

  pub read_set : (y : X) (d : ℕ → Y) (n : ℕ) → get_or (map f (set xs k y)) n (d n) ≡ updated (λ n. get_or (map f xs) n (d n)) k (f y) n
  read_set y d n = ap (λ l. get_or l n (d n)) (map-set f xs k y) ∙ get_d_set (map f xs) k (f y) (d n) (rw lib.ListN.length-map low) n

  -- what reads the same is as if nothing had been replaced
  pub read_same : (y : X) → f y ≡ f x → map f (set xs k y) ≡ map f xs
  read_same y e = map-set f xs k y ∙ ap (set (map f xs) k) (e ∙ read_is (f x)) ∙ set-get_or (map f xs) k (f x)

module _ {W B : Type 0} (meaning : W → Wire) (holds : B → Stock) (h : CodeHouse W B) (k : ℕ) (low : k < (plan_of h.plan).rooms) where
  rooms_low : k < length (vec_items h.rooms)
  rooms_low = omega (arith, low, h.roomed, h.rooms.ok.0)

  books_low : k < length (vec_items h.books)
  books_low = omega (arith, low, h.booked, h.books.ok.0)

  -- what the book there holds
  pub book_is : (m : B) → m ≡ get_or (vec_items h.books) k m → (g : Given) → holds m ≡ (view g (parts_of meaning holds h)).book k
  book_is m at g = read_is holds (vec_items h.books) k books_low m at ((opened g).book k)

  module _ (r : CodeRoom) (is : r ≡ get_or (vec_items h.rooms) k r) where
    pub number_is : room_number r ≡ k
    number_is = read_is room_number (vec_items h.rooms) k rooms_low r is 0 ∙ ap (λ l. get_or l k 0) h.numbered ∙ get_or-rising 0 _ k 0 low ∙ omega arith

    pub numbered-still : (s : CodeRoom) → room_number s ≡ room_number r → map room_number (set (vec_items h.rooms) k s) ≡ rising 0 (plan_of h.plan).rooms
    numbered-still s e = read_same room_number (vec_items h.rooms) k rooms_low r is s e ∙ h.numbered

    pub room_is : (g : Given) → room_of r ≡ (view g (parts_of meaning holds h)).room k
    room_is g = read_is room_of (vec_items h.rooms) k rooms_low r is new_room

    -- the parts with another wire and another room there
    abbrev pub moved : W → CodeRoom → Parts
    moved v s = record { plan = plan_of h.plan; wire = meaning v; rooms = map room_of (set (vec_items h.rooms) k s); books = map holds (vec_items h.books) }

    pub moved_is : (g : Given) (v : W) (s : CodeRoom) → view g (moved v s) ≡ with_room (view g (parts_of meaning holds h)) (meaning v) k (room_of s)
    moved_is g v s = ap (λ (R : ℕ → Room). record { wire = meaning v; room = R; book = (view g (parts_of meaning holds h)).book })
        (fun_ext (read_set room_of (vec_items h.rooms) k rooms_low r is s (λ _. new_room)))

    pub moved_back : moved h.wire r ≡ parts_of meaning holds h
    moved_back = ap (λ (l : List Room). record { plan = plan_of h.plan; wire = meaning h.wire; rooms = l; books = map holds (vec_items h.books) }) (read_same room_of (vec_items h.rooms) k rooms_low r is r refl)

    -- a house with the same room there
    pub back : (q : CodeHouse W B) (s : CodeRoom) → q.plan ≡ h.plan → q.wire ≡ h.wire → q.rooms ≡ with_item h.rooms k s → q.books ≡ h.books → s ≡ r → q ≡ h
    back q s plan wire rooms books e = same_house h q plan wire (rooms ∙ ap (with_item h.rooms k) e ∙ with_item_same h.rooms k r is) books

    module _ (m : B) (at : m ≡ get_or (vec_items h.books) k m) where
      -- and another book
      abbrev pub written : W → CodeRoom → B → Parts
      written v s n = record { plan = plan_of h.plan; wire = meaning v; rooms = map room_of (set (vec_items h.rooms) k s); books = map holds (set (vec_items h.books) k n) }

      pub written_is : (g : Given) (v : W) (s : CodeRoom) (n : B) → view g (written v s n) ≡ with_book (view g (parts_of meaning holds h)) (meaning v) k (room_of s) (holds n)
      written_is g v s n =
          let R = fun_ext (read_set room_of (vec_items h.rooms) k rooms_low r is s (λ _. new_room)) in
          let S = fun_ext (read_set holds (vec_items h.books) k books_low m at n (opened g).book) in
          λ i. record { wire = meaning v; room = R i; book = S i }

      pub written_back : written h.wire r m ≡ parts_of meaning holds h
      written_back =
          let R = read_same room_of (vec_items h.rooms) k rooms_low r is r refl in
          let S = read_same holds (vec_items h.books) k books_low m at m refl in
          λ i. record { plan = plan_of h.plan; wire = meaning h.wire; rooms = R i; books = S i }

      -- and the same book
      pub back_too : (q : CodeHouse W B) (s : CodeRoom) (n : B) → q.plan ≡ h.plan → q.wire ≡ h.wire → q.rooms ≡ with_item h.rooms k s → q.books ≡ with_item h.books k n → s ≡ r → n ≡ m → q ≡ h
      back_too q s n plan wire rooms books e f = back q s plan wire rooms (books ∙ ap (with_item h.books k) f ∙ with_item_same h.books k m at) e
