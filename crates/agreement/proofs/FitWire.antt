-- After post, number and hear the house fits its picture again. A post changes no picture; a number leaves all rooms as
-- they are; what a room hears goes to the end of its waiting list, since it is neither settled nor installed there.
use Rattle.std.proofs.Common.{◌≡◌, ℕ, ◌<◌, Bool, true, false, not, ◌&&◌, eqb, List, [], ◌∷◌, ◌++◌, length, get_or, sym, refl, ap, ◌∙◌, inl, inr, arith, length-append}
use mathlib.Core.Path.{fun_ext}
use Rattle.std.proofs.lemmas.Bool.{cases_Bool, cases_eq, eqb-true, eq-eqb}
use Rattle.lists.specs.Words.{member, any, keep, updated, Distinct}
use Rattle.lists.proofs.Members.{push_cases, any_same}
use Rattle.lists.proofs.Keeps.{keep_append, keep_same}
use Rattle.lists.proofs.Updates.{updated-here, updated-there, updated_each}
use Rattle.batches.specs.Batches.{Batch}
use Rattle.wire.specs.Calls.{Chosen}
use Rattle.order.specs.Works.{Works}
use Rattle.order.specs.Order.{house_order}
use Rattle.order.specs.Laws.{turn, serializer}
use Rattle.order.proofs.Serializers.{serializer-push}
use Rattle.order.proofs.Hearings.{hear, hearing_keeps}
use Rattle.agreement.specs.Rooms.{room_hear}
use Rattle.agreement.specs.Houses.{Given, House, works}
use Rattle.agreement.specs.Calls.{after_post, after_number, after_hear}
use Rattle.agreement.specs.Promises.{own_heard}
use Rattle.agreement.proofs.Pictures.{Scene, Picture, Invariant, sits, settled_of, waiting_of, picture_number, picture_hear}
use Rattle.agreement.proofs.Puts.{clash}
use Rattle.agreement.proofs.Standing.{settled-heard}
use Rattle.agreement.proofs.Growing.{released-placed}
use Rattle.agreement.proofs.Lines.{own_turn}
use Rattle.agreement.proofs.KeepNumber.{number-keeps, same-before}
use Rattle.agreement.proofs.KeepHear.{hear-keeps, sits_stay, seat_stay, turn_stay, before_back}
use Rattle.agreement.proofs.Fits.{RoomFits, Fits, announced-released, in_room-released, in_room-placed}

pub push-posted : (l : List ℕ) (q n : ℕ) → ((b : ℕ) → member b l ≡ true → b < n) → q < n → (b : ℕ) → member b (l ++ q ∷ []) ≡ true → b < n
push-posted l q n h low b m = elim (push_cases b l q m) [ inl e ↦ rw e low | inr t ↦ h b t ]

module _ (g : Given) (w : Scene) (s : Picture) (h : House) (o : Fits g w s h) where
  abbrev ws : Works
  ws = w.works

  abbrev i : Invariant w s
  i = o.inv

  module _ (room : ℕ) (b : Batch) (more : (a : ℕ) → a < length (after_post h room b).wire.posts → ((works g (after_post h room b)).batch a ≡ ws.batch a) × ((works g (after_post h room b)).master a ≡ ws.master a)) where
    longer : (a : ℕ) → a < length h.wire.posts → a < length (after_post h room b).wire.posts
    longer a l = let z = length-append h.wire.posts ((record { room = room; batch = b }) ∷ []) in omega (arith, z, l)

    pub fits-post : Fits g w s (after_post h room b)
    fits-post = record {
      inv = i;
      released_once = o.released_once;
      rooms = o.rooms;
      books = o.books;
      batches = λ a l. (more a l).0;
      masters = λ a l. (more a l).1;
      wire = let v = o.wire in record {
        definitive_is = v.definitive_is;
        heard_is = v.heard_is;
        taken_is = v.taken_is;
        numbered_posted = λ a m. longer a (v.numbered_posted a m);
        heard_posted = λ k a m. longer a (v.heard_posted k a m);
        announced_are = v.announced_are;
        serializers_are = v.serializers_are;
        amounts_are = v.amounts_are;
        received_are = v.received_are;
        received_low = v.received_low;
      };
    }

  module _ (q : ℕ) (c : Chosen h.wire h.wire.definitive q) where
    new-q : member q s.definitive ≡ false
    new-q = ap (member q) o.wire.definitive_is ∙ c.new

    pub fits-number : Fits g w (picture_number s q) (after_number h q)
    fits-number = record {
      inv = number-keeps w s i q new-q;
      released_once = o.released_once;
      books = o.books;
      batches = o.batches;
      masters = o.masters;
      wire = let v = o.wire in record {
        definitive_is = ap (λ l. l ++ q ∷ []) v.definitive_is;
        heard_is = v.heard_is;
        taken_is = v.taken_is;
        numbered_posted = push-posted h.wire.definitive q (length h.wire.posts) v.numbered_posted c.posted;
        heard_posted = v.heard_posted;
        announced_are = v.announced_are;
        serializers_are = λ m j l. v.serializers_are m j l ∙ sym (serializer-push ws s.heard s.definitive q _ (released-placed w s i _ (announced-released w s h.wire v m j l).0));
        amounts_are = v.amounts_are;
        received_are = v.received_are;
        received_low = v.received_low;
      };
      rooms = λ k. let r = o.rooms k in record {
        waiting_is = r.waiting_is;
        settled_is = r.settled_is;
        installed_is = r.installed_is;
        installed_once = r.installed_once;
        installed_order = λ a b m bef sh. r.installed_order a b m (sym (same-before w s i q new-q a b (in_room-placed g w s h o k b m)) ∙ bef) sh;
        marked_is = r.marked_is;
        result_is = r.result_is;
        serializer_is = r.serializer_is;
      };
    }

  module _ (k x : ℕ) (c : Chosen h.wire (h.wire.tentative k) x) where
    abbrev s' : Picture
    s' = picture_hear s k x

    abbrev T : ℕ → List ℕ
    T = s.heard

    abbrev T' : ℕ → List ℕ
    T' = hear s.heard k x

    new_x : member x (s.heard k) ≡ false
    new_x = ap (member x) (o.wire.heard_is k) ∙ c.new

    unsettled : any (sits w s k x) (s.taken k) ≡ false
    unsettled = elim (cases_Bool (any (sits w s k x) (s.taken k))) [ inr f ↦ f | inl t ↦ clash (member x (T k)) (settled-heard w s i k x t) new_x ]

    uninstalled : s.installed k x ≡ false
    uninstalled = elim (cases_Bool (s.installed k x)) [ inr f ↦ f | inl t ↦ clash (member x (T k)) (i.installed_heard k x t) new_x ]

    -- who waits of a list, waits as before
    abbrev waits : ℕ → Picture → ℕ → Bool
    waits n s a = not (s.installed n a) && not (any (sits w s n a) (s.taken n))

    waits_stay : (n : ℕ) (l : List ℕ) → keep (waits n s') l ≡ keep (waits n s) l
    waits_stay n l = keep_same _ _ l (λ a _. ap (λ b. not (s.installed n a) && not b) (any_same (sits w s' n a) (sits w s n a) (s.taken n) (sits_stay w s i k x new_x n a)))

    waiting-here : (h.room k).waiting ++ x ∷ [] ≡ waiting_of w s' k
    waiting-here = ap (λ l. l ++ x ∷ []) (o.rooms k).waiting_is ∙ sym (waits_stay k (T' k) ∙ ap (keep (waits k s)) (updated-here T k (T k ++ x ∷ [])) ∙ keep_append (waits k s) (T k) (x ∷ []) ∙
        ap (λ l. waiting_of w s k ++ l) (rw (unsettled, uninstalled)))

    waiting-there : (n : ℕ) → (n ≡ k → ⊥) → (h.room n).waiting ≡ waiting_of w s' n
    waiting-there n ne = (o.rooms n).waiting_is ∙ sym (waits_stay n (T' n) ∙ ap (keep (waits n s)) (updated-there T k (T k ++ x ∷ []) n ne))

    -- the order in which a room settles stays
    own_here : (m : ℕ) → own_heard T' k m ≡ hear (own_heard T k) k x m
    own_here m = elim (cases_Bool (eqb m k)) [ inl t ↦ let kk : eqb k k ≡ true = eq-eqb k k refl in rw (t, kk) | inr f ↦ rw f ]

    own_there : (n : ℕ) → (n ≡ k → ⊥) → (m : ℕ) → own_heard T' n m ≡ own_heard T n m
    own_there n ne m = elim (cases_Bool (eqb m n)) [ inl t ↦ rw t (updated-there T k (T k ++ x ∷ []) m (λ e. ne (sym (eqb-true _ _ t) ∙ e))) | inr f ↦ rw f ]

    own_once : (m : ℕ) → Distinct (own_heard T k m)
    own_once m = elim (cases_Bool (eqb m k)) [ inl t ↦ rw t (i.heard_once m) | inr f ↦ rw f tt ]

    own_turns : (a : ℕ) → turn ws (hear (own_heard T k) k x) (s.taken k) a ≡ turn ws (own_heard T k) (s.taken k) a
    own_turns a = ap (λ (U : ℕ → List ℕ). turn ws U (s.taken k) a) (sym (fun_ext own_here)) ∙ own_turn w s' k a ∙ seat_stay w s i k x new_x k a ∙ sym (own_turn w s k a)

    settled_stay : (n : ℕ) → settled_of w s' n ≡ settled_of w s n
    settled_stay n = elim (cases_eq n k) [ inl e ↦ rw e here | inr ne ↦ ap (λ (U : ℕ → List ℕ). keep (λ a. not (s.installed n a)) (house_order ws U (s.taken n))) (fun_ext (own_there n ne)) ]
      where
        here : settled_of w s' k ≡ settled_of w s k
        here = ap (λ (U : ℕ → List ℕ). keep (λ a. not (s.installed k a)) (house_order ws U (s.taken k))) (fun_ext own_here) ∙
            hearing_keeps ws (own_heard T k) k x own_once (let z : eqb k k ≡ true = eq-eqb k k refl in rw z new_x) (s.taken k) (λ a. not (s.installed k a)) (λ a _. own_turns a)

    -- what stays of a room
    room-stays : (n : ℕ) (waiting : List ℕ) → waiting ≡ waiting_of w s' n →
        RoomFits w s' n (record { waiting = waiting; settled = (h.room n).settled; installed = (h.room n).installed; mark = (h.room n).mark; serializer = (h.room n).serializer })
    room-stays n waiting e = let q = o.rooms n in record {
      waiting_is = e;
      settled_is = q.settled_is ∙ sym (settled_stay n);
      installed_is = q.installed_is;
      installed_once = q.installed_once;
      installed_order = λ a b m bef sh. q.installed_order a b m (before_back w s i k x new_x a b (in_room-released g w s h o n b m) bef sh) sh;
      marked_is = q.marked_is;
      result_is = q.result_is;
      serializer_is = λ b m e. q.serializer_is b m e ∙ ap (λ j. get_or (s.taken n) j 0) (sym (seat_stay w s i k x new_x n b));
    }

    serializer-stays : (b : ℕ) → member b s.released ≡ true → serializer ws T' s.definitive b ≡ serializer ws T s.definitive b
    unfolding serializer
    serializer-stays b l = ap (λ j. get_or s.definitive j 0) (turn_stay w s i k x new_x b l)

    pub fits-hear : Fits g w (picture_hear s k x) (after_hear h k x)
    fits-hear = record {
      inv = hear-keeps w s i k x new_x;
      released_once = o.released_once;
      books = o.books;
      batches = o.batches;
      masters = o.masters;
      wire = let v = o.wire in record {
        definitive_is = v.definitive_is;
        heard_is = λ n. ap (λ (U : ℕ → List ℕ). updated U k (U k ++ x ∷ []) n) (fun_ext v.heard_is);
        taken_is = v.taken_is;
        numbered_posted = v.numbered_posted;
        heard_posted = updated_each h.wire.tentative k (h.wire.tentative k ++ x ∷ []) (λ _ l. (b : ℕ) → member b l ≡ true → b < length h.wire.posts)
            (push-posted (h.wire.tentative k) x (length h.wire.posts) (v.heard_posted k) c.posted) (λ n _. v.heard_posted n);
        announced_are = v.announced_are;
        serializers_are = λ m j l. v.serializers_are m j l ∙ sym (serializer-stays _ (announced-released w s h.wire v m j l).0);
        amounts_are = v.amounts_are;
        received_are = v.received_are;
        received_low = v.received_low;
      };
      rooms = updated_each h.room k (room_hear (h.room k) x) (RoomFits w s') (room-stays k ((h.room k).waiting ++ x ∷ []) waiting-here)
          (λ n ne. room-stays n (h.room n).waiting (waiting-there n ne));
    }
