-- Numbering keeps the invariant: the order only grows at its end, so whatever is chosen of the old order is the same
-- part of the new one.
use Rattle.std.proofs.Common.{◌≡◌, ℕ, Bool, true, false, List, [], ◌∷◌, ◌++◌, sym, ap, ◌∙◌, inl, inr, append_assoc, append-nil}
use Rattle.std.proofs.lemmas.Bool.{cases_Bool}
use Rattle.lists.specs.Words.{member, keep, before}
use Rattle.lists.proofs.Keeps.{keep_append, keep-none}
use Rattle.lists.proofs.Befores.{before-append, before_members}
use Rattle.lists.proofs.Distincts.{distinct_push, distinct_apart}
use Rattle.order.specs.Works.{Works}
use Rattle.order.specs.Order.{house_order, serial_run}
use Rattle.order.proofs.Walks.{order-once, order_grows}
use Rattle.agreement.proofs.Pictures.{Scene, Picture, Invariant, order_of, after, picture_number}
use Rattle.agreement.proofs.Puts.{clash}
use Rattle.agreement.proofs.Growing.{released-placed, installed-placed}

module _ (w : Scene) (s : Picture) (i : Invariant w s) (q : ℕ) (new : member q s.definitive ≡ false) where
  abbrev ws : Works
  ws = w.works

  abbrev H : List ℕ
  H = order_of w s

  abbrev H' : List ℕ
  H' = house_order w.works s.heard (s.definitive ++ q ∷ [])

  more : List ℕ
  more = (order_grows ws s.heard s.definitive q).0

  grows : H' ≡ H ++ more
  unfolding more
  grows = (order_grows ws s.heard s.definitive q).1

  kept : (J : ℕ → Bool) → ((a : ℕ) → J a ≡ true → member a H ≡ true) → keep J H' ≡ keep J H
  kept J sub = ap (keep J) grows ∙ keep_append J H more ∙ ap (λ l. keep J H ++ l) (keep-none J more (λ a h. elim (cases_Bool (J a)) [
    | inr f ↦ f
    | inl t ↦ clash (member a H) (sub a t) (distinct_apart H more a (rw grows at (order-once ws s.heard i.heard_once (s.definitive ++ q ∷ []))) h)
  ])) ∙ append-nil (keep J H)

  pub same-before : (a b : ℕ) → member b H ≡ true → before H' a b ≡ before H a b
  same-before a b h = ap (λ l. before l a b) grows ∙ before-append a b H more h

  pub number-keeps : Invariant w (picture_number s q)
  number-keeps = record {
    heard_once = i.heard_once;
    numbered_once = distinct_push s.definitive q i.numbered_once new;
    front = λ k. ((i.front k).0 ++ q ∷ [], ap (λ l. l ++ q ∷ []) (i.front k).1 ∙ append_assoc (s.taken k) (i.front k).0 (q ∷ []));
    taken_heard = i.taken_heard;
    installed_released = i.installed_released;
    installed_heard = i.installed_heard;
    home_first = i.home_first;
    settled_first = i.settled_first;
    in_turn = i.in_turn;
    closed = λ k a b bef sh h. i.closed k a b (sym (same-before a b (installed-placed w s i k b h)) ∙ bef) sh h;
    release_order = λ a b h bef sh. i.release_order a b h (sym (same-before a b (released-placed w s i b h)) ∙ bef) sh;
    books = λ k x. i.books k x ∙ ap (λ l. serial_run ws l w.opening x) (sym (kept (s.installed k) (installed-placed w s i k)));
    announcements = λ b x h hb. i.announcements b x h hb ∙ ap (λ l. after w b (serial_run ws l w.opening) x)
        (sym (kept (λ a. before s.released a b) (λ a z. released-placed w s i a (before_members a b s.released z).0)));
    marks = i.marks;
    marks_first = i.marks_first;
    marks_right = i.marks_right;
  }
