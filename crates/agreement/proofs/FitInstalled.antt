-- What release and install have in common: batch b goes to the end of room k's installed list, and its amounts into the
-- room's book. Another room stays as it is.
use Rattle.std.proofs.Common.{◌≡◌, ℕ, Bool, true, false, cond, not, ◌&&◌, ◌||◌, eqb, List, [], ◌∷◌, ◌++◌, sym, ap, ◌∙◌, inl, inr, arith}
use mathlib.Core.Path.{fun_ext}
use Rattle.std.proofs.lemmas.Bool.{cases_Bool}
use Rattle.lists.specs.Words.{member, any, before, keep, without, updated}
use Rattle.lists.proofs.Members.{member-push}
use Rattle.lists.proofs.Keeps.{keep-keep, keep_same}
use Rattle.lists.proofs.Befores.{before-push}
use Rattle.lists.proofs.Updates.{updated-map, updated-same}
use Rattle.sets.specs.Sets.{bases}
use Rattle.stock.specs.Stock.{Amounts, Stock, laid}
use Rattle.batches.specs.Batches.{Batch}
use Rattle.order.specs.Works.{set_of, has_base, share}
use Rattle.agreement.specs.Rooms.{Room, book_written}
use Rattle.agreement.specs.Houses.{Given, House, works}
use Rattle.agreement.proofs.Pictures.{Scene, Picture, order_of, sits, own_order, put, laid_on}
use Rattle.agreement.proofs.Puts.{put-here, put-there, not-put}
use Rattle.agreement.proofs.Fits.{unpacked, RoomFits, Fits, known}

wait_out : (e i t : Bool) → ((not e && not i) && t) ≡ (not e && (not i && t))
wait_out e i t = grind arith

module _ (w : Scene) (s : Picture) (k : ℕ) (r : Room) (o : RoomFits w s k r) (b : ℕ) where
  pub installed-new : (a : ℕ) → put s.installed k b true k a ≡ member a (r.installed ++ b ∷ [])
  installed-new a = put-here s.installed k b a ∙ ap (λ x. x || eqb a b) (o.installed_is a) ∙ sym (member-push a r.installed b)

  pub order-new : member b r.installed ≡ false → ((a : ℕ) → before (order_of w s) a b ≡ true → share w.works a b ≡ true → s.installed k a ≡ true) →
      (a c : ℕ) → member c (r.installed ++ b ∷ []) ≡ true → before (order_of w s) a c ≡ true → share w.works a c ≡ true → before (r.installed ++ b ∷ []) a c ≡ true
  order-new f front a c m bef sh = before-push r.installed a c b m f (λ z. o.installed_order a c z bef sh) (λ z. sym (o.installed_is a) ∙ front a (rw z at bef) (rw z at sh))

  pub settled-new : without b r.settled ≡ keep (λ a. not (put s.installed k b true k a)) (own_order w s k)
  settled-new = ap (without b) o.settled_is ∙ keep-keep (λ a. not (eqb a b)) (λ a. not (s.installed k a)) (own_order w s k) ∙ sym (keep_same _ _ (own_order w s k) (λ a _. not-put s.installed k b a))

  pub waiting-new : without b r.waiting ≡ keep (λ a. not (put s.installed k b true k a) && not (any (sits w s k a) (s.taken k))) (s.heard k)
  waiting-new = ap (without b) o.waiting_is ∙ keep-keep (λ a. not (eqb a b)) (λ a. not (s.installed k a) && not (any (sits w s k a) (s.taken k))) (s.heard k) ∙
      sym (keep_same _ _ (s.heard k) (λ a _. ap (λ x. x && not (any (sits w s k a) (s.taken k))) (not-put s.installed k b a) ∙ wait_out (eqb a b) (s.installed k a) (not (any (sits w s k a) (s.taken k)))))

-- the lists of another room
module _ (w : Scene) (s : Picture) (n : ℕ) (r : Room) (o : RoomFits w s n r) (k b : ℕ) (ne : n ≡ k → ⊥) where
  pub waiting_other : r.waiting ≡ keep (λ a. not (put s.installed k b true n a) && not (any (sits w s n a) (s.taken n))) (s.heard n)
  waiting_other = o.waiting_is ∙ sym (keep_same _ _ (s.heard n) (λ a _. ap (λ x. not x && not (any (sits w s n a) (s.taken n))) (put-there s.installed k b n a ne)))

  pub settled_other : r.settled ≡ keep (λ a. not (put s.installed k b true n a)) (own_order w s n)
  settled_other = o.settled_is ∙ sym (keep_same _ _ (own_order w s n) (λ a _. ap not (put-there s.installed k b n a ne)))

-- the book, with amounts that the picture has too
module _ (g : Given) (w : Scene) (s : Picture) (h : House) (o : Fits g w s h) (k b : ℕ) (hb : member b (s.heard k) ≡ true) where
  pub books-new : (amounts : Amounts) (values : List ℕ) (left : ℕ) → ((x : ℕ) → has_base w.works b x ≡ true → unpacked (set_of w.works b) values x ≡ amounts x) → (n x : ℕ) →
      updated s.book k (laid_on w b amounts (s.book k)) n x ≡ (updated h.book k (book_written (set_of (works g h) b) values left (h.book k)) n).amounts x
  books-new amounts values left same n x = ap (λ (m : Amounts). m x)
      (updated-same s.book k (laid_on w b amounts (s.book k)) (λ m. (h.book m).amounts) (laid (set_of (works g h) b) values (h.book k).amounts) (λ m. fun_ext (o.books m)) (fun_ext laid_same) n ∙
      sym (updated-map h.book k (book_written (set_of (works g h) b) values left (h.book k)) (λ (t : Stock). t.amounts) n))
    where
      here : (x : ℕ) → laid_on w b amounts (s.book k) x ≡ cond (has_base w.works b x) (unpacked (set_of w.works b) values x) ((h.book k).amounts x)
      here x = elim (cases_Bool (has_base w.works b x)) [ inl t ↦ rw t (sym (same x t)) | inr f ↦ rw f (o.books k x) ]

      laid_same : (x : ℕ) → laid_on w b amounts (s.book k) x ≡ laid (set_of (works g h) b) values (h.book k).amounts x
      laid_same x = here x ∙ ap (λ (z : Batch). cond (member x (bases z.set)) (unpacked z.set values x) ((h.book k).amounts x)) (sym (known g w s h o k b hb).0)
