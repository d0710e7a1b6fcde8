-- Read off a picture: each book is the serial run of what its room has installed, and installed batches keep to the house
-- order.
use Rattle.std.proofs.Common.{◌≡◌, ℕ, true, List, sym, ap, ◌∙◌, inl, inr}
use mathlib.Core.Path.{fun_ext}
use Rattle.std.proofs.lemmas.Bool.{cases_Bool, both_ways}
use Rattle.lists.specs.Words.{member, before, keep}
use Rattle.lists.proofs.Keeps.{keep_same}
use Rattle.lists.proofs.Befores.{before_members, before_or, before_self, before_flip}
use Rattle.order.specs.Works.{share}
use Rattle.order.specs.Order.{house_order, serial_run}
use Rattle.order.proofs.Serials.{share_sym}
use Rattle.agreement.specs.Houses.{Given, House, works, order}
use Rattle.agreement.specs.Promises.{BooksSerial, InstalledInOrder}
use Rattle.agreement.proofs.Pictures.{Scene, Picture, order_of}
use Rattle.agreement.proofs.Puts.{clash}
use Rattle.agreement.proofs.Fits.{Fits, in_room-placed}
use Rattle.agreement.proofs.Pictured.{AllRight, scene_of}

module _ (g : Given) (h : House) (hP : AllRight h.wire.posts) (s : Picture) (o : Fits g (scene_of g h hP) s h) where
  abbrev w : Scene
  w = scene_of g h hP

  pub order_is : order g h ≡ order_of w s
  order_is = ap (house_order (works g h) h.wire.tentative) (sym o.wire.definitive_is) ∙ ap (λ (T : ℕ → List ℕ). house_order (works g h) T s.definitive) (sym (fun_ext o.wire.heard_is))

  pub books_serial : BooksSerial g h
  books_serial k x = sym (o.books k x) ∙ o.inv.books k x ∙ ap (λ l. serial_run (works g h) l g.opening x)
      (keep_same (s.installed k) (λ b. member b (h.room k).installed) (order_of w s) (λ a _. (o.rooms k).installed_is a) ∙ ap (keep (λ b. member b (h.room k).installed)) (sym order_is))

  placed : (k b : ℕ) → member b (h.room k).installed ≡ true → member b (order g h) ≡ true
  placed k b m = ap (member b) order_is ∙ in_room-placed g w s h o k b m

  follows : (k a b : ℕ) → member b (h.room k).installed ≡ true → before (order g h) a b ≡ true → share (works g h) a b ≡ true → before (h.room k).installed a b ≡ true
  follows k a b m bef sh = (o.rooms k).installed_order a b m (ap (λ l. before l a b) (sym order_is) ∙ bef) sh

  in_order : (k a b : ℕ) → member a (h.room k).installed ≡ true → member b (h.room k).installed ≡ true → share (works g h) a b ≡ true →
      before (h.room k).installed a b ≡ before (order g h) a b
  in_order k a b ma mb sh = elim (cases_Bool (before (order g h) a b)) [
    | inl t ↦ follows k a b mb t sh ∙ sym t
    | inr f ↦ elim (cases_Bool (before (h.room k).installed a b)) [
      | inr n ↦ n ∙ sym f
      | inl t ↦
          let turned = before_or (order g h) a b (placed k a ma) (placed k b mb) (λ e. both_ways (before (h.room k).installed a b) (rw e (before_self (h.room k).installed b)) t) f in
          clash (before (h.room k).installed b a) (follows k b a ma turned (share_sym (works g h) a b sh)) (before_flip (h.room k).installed a b t)
    ]
  ]

  pub installed-in_order : InstalledInOrder g h
  installed-in_order = record {
    placed = placed;
    once = λ k. (o.rooms k).installed_once;
    in_order = in_order;
    none_missing = λ k a b m bef sh. (before_members a b (h.room k).installed (follows k a b m bef sh)).0;
  }
