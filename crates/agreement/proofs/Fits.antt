-- How a house fits a picture of it: its wire, its rooms and its books one by one. The picture knows all batches that are
-- ever posted, the house those posted so far.
use Rattle.std.proofs.Common.{◌≡◌, ℕ, ◌<◌, ◌≤◌, Bool, true, false, not, ◌&&◌, ◌||◌, eqb, ltb, List, map, length, get_or, sym, ap, ◌∙◌, subst, arith}
use lib.ListN.{length-map}
use Rattle.std.proofs.lemmas.List.{get_or-map}
use Rattle.std.proofs.lemmas.Bool.{and_parts, eqb-true}
use Rattle.lists.specs.Words.{member, any, keep, place, before, Distinct}
use Rattle.lists.proofs.Members.{member-get_or}
use Rattle.lists.proofs.Keeps.{member-keep}
use Rattle.sets.specs.Sets.{bases}
use Rattle.stock.specs.Stock.{Amounts}
use Rattle.wire.specs.Wire.{Wire}
use Rattle.wire.specs.Calls.{no_announcement}
use Rattle.wire.specs.declared.announcement.Announcement.{Announcement}
use Rattle.order.specs.Works.{set_of, has_base, share}
use Rattle.agreement.specs.Rooms.{Room, heard_here, is_marked, marked_result}
use Rattle.agreement.specs.Houses.{Given, House, works}
use Rattle.agreement.proofs.Pictures.{Scene, Picture, Invariant, order_of, sits, seat, settled_of, waiting_of, serializer_of}
use Rattle.agreement.proofs.Standing.{settled-heard}
use Rattle.agreement.proofs.Growing.{installed-placed}
use Rattle.agreement.proofs.Lines.{member_settled, member-waiting}

-- the amount of base x in a packed list
abbrev pub unpacked : ℕ → List ℕ → Amounts
unpacked set values x = get_or values (place x (bases set)) 0

-- an announcement of a sender, by its place
abbrev pub announcement : Wire → ℕ → ℕ → Announcement
announcement v m j = get_or (v.announced m) j no_announcement

pub record WireFits (w : Scene) (s : Picture) (v : Wire) : Type 0 where
  pub definitive_is : s.definitive ≡ v.definitive
  pub heard_is : (k : ℕ) → s.heard k ≡ v.tentative k
  pub taken_is : (k : ℕ) → length (s.taken k) ≡ v.taken k
  pub numbered_posted : (b : ℕ) → member b v.definitive ≡ true → b < length v.posts
  pub heard_posted : (k b : ℕ) → member b (v.tentative k) ≡ true → b < length v.posts
  -- a room's announcements are its own released batches, each with its serializer and its amounts
  pub announced_are : (m : ℕ) → map (λ (a : Announcement). a.batch) (v.announced m) ≡ keep (λ b. eqb (w.works.master b) m) s.released
  pub serializers_are : (m j : ℕ) → j < length (v.announced m) → (announcement v m j).serializer ≡ serializer_of w s (announcement v m j).batch
  pub amounts_are : (m j x : ℕ) → j < length (v.announced m) → has_base w.works (announcement v m j).batch x ≡ true →
      unpacked (set_of w.works (announcement v m j).batch) (announcement v m j).result.amounts x ≡ s.announced (announcement v m j).batch x
  -- and another room has installed just those it has taken
  pub received_are : (k m j : ℕ) → (k ≡ m → ⊥) → j < length (v.announced m) → s.installed k (announcement v m j).batch ≡ ltb j (v.received k m)
  pub received_low : (k m : ℕ) → v.received k m ≤ length (v.announced m)

pub record RoomFits (w : Scene) (s : Picture) (k : ℕ) (r : Room) : Type 0 where
  pub waiting_is : r.waiting ≡ waiting_of w s k
  pub settled_is : r.settled ≡ settled_of w s k
  pub installed_is : (b : ℕ) → s.installed k b ≡ member b r.installed
  pub installed_once : Distinct r.installed
  pub installed_order : (a b : ℕ) → member b r.installed ≡ true → before (order_of w s) a b ≡ true → share w.works a b ≡ true → before r.installed a b ≡ true
  pub marked_is : (b : ℕ) → s.marked k b ≡ is_marked r b
  pub result_is : (b x : ℕ) → is_marked r b ≡ true → has_base w.works b x ≡ true → unpacked (set_of w.works b) (marked_result r b).amounts x ≡ s.result k b x
  pub serializer_is : (b : ℕ) → member b r.settled ≡ true → w.works.master b ≡ k → r.serializer b ≡ get_or (s.taken k) (seat w s k b) 0

pub record Fits (g : Given) (w : Scene) (s : Picture) (h : House) : Type 0 where
  pub inv : Invariant w s
  pub released_once : Distinct s.released
  pub wire : WireFits w s h.wire
  pub rooms : (k : ℕ) → RoomFits w s k (h.room k)
  pub books : (k x : ℕ) → s.book k x ≡ (h.book k).amounts x
  pub batches : (b : ℕ) → b < length h.wire.posts → (works g h).batch b ≡ w.works.batch b
  pub masters : (b : ℕ) → b < length h.wire.posts → (works g h).master b ≡ w.works.master b

-- what is heard and neither waits nor is installed is settled
pub heard-settled : (r : Room) (b : ℕ) → heard_here r b ≡ true → member b r.waiting ≡ false → member b r.installed ≡ false → member b r.settled ≡ true
heard-settled r b = left (member b r.waiting) (member b r.settled) (member b r.installed)
  where
    left : (wt st inst : Bool) → (wt || (st || inst)) ≡ true → wt ≡ false → inst ≡ false → st ≡ true
    left wt st inst h f n = grind arith

listed-test : (i a t : Bool) → (a ≡ true → t ≡ true) → (i ≡ true → t ≡ true) → (((not i && not a) && t) || ((not i && a) || i)) ≡ t
listed-test i a t h k = grind arith

module _ (w : Scene) (s : Picture) (i : Invariant w s) (k : ℕ) (r : Room) (o : RoomFits w s k r) where
  pub settled-sits : (b : ℕ) → member b r.settled ≡ (not (s.installed k b) && any (sits w s k b) (s.taken k))
  settled-sits b = ap (member b) o.settled_is ∙ member_settled w s k b

  pub waiting-sits : (b : ℕ) → member b r.waiting ≡ ((not (s.installed k b) && not (any (sits w s k b) (s.taken k))) && member b (s.heard k))
  waiting-sits b = ap (member b) o.waiting_is ∙ member-waiting w s k b

  -- what a room has heard stands in one of its lists
  pub heard-listed : (b : ℕ) → heard_here r b ≡ member b (s.heard k)
  heard-listed b = ap (λ x. x || (member b r.settled || member b r.installed)) (waiting-sits b) ∙
      ap (λ x. ((not (s.installed k b) && not (any (sits w s k b) (s.taken k))) && member b (s.heard k)) || (x || member b r.installed)) (settled-sits b) ∙
      ap (λ x. ((not (s.installed k b) && not (any (sits w s k b) (s.taken k))) && member b (s.heard k)) || ((not (s.installed k b) && any (sits w s k b) (s.taken k)) || x)) (sym (o.installed_is b)) ∙
      listed-test (s.installed k b) (any (sits w s k b) (s.taken k)) (member b (s.heard k)) (settled-heard w s i k b) (i.installed_heard k b)

-- an announced batch is released, and its sender is its master
module _ (w : Scene) (s : Picture) (v : Wire) (o : WireFits w s v) where
  pub announced-released : (m j : ℕ) → j < length (v.announced m) → (member (announcement v m j).batch s.released ≡ true) × (w.works.master (announcement v m j).batch ≡ m)
  announced-released m j l =
      let b : ℕ = (announcement v m j).batch in
      let L : List ℕ = map (λ (a : Announcement). a.batch) (v.announced m) in
      let u : member b L ≡ true = subst (λ n. member n L ≡ true) (get_or-map (λ (a : Announcement). a.batch) (v.announced m) j no_announcement 0 l) (member-get_or L j (rw (length-map (v.announced m) (λ (a : Announcement). a.batch)) l)) in
      let z = and_parts (eqb (w.works.master b) m) (member b s.released) (sym (member-keep (λ b. eqb (w.works.master b) m) b s.released) ∙ ap (member b) (sym (o.announced_are m)) ∙ u) in
      (z.1, eqb-true _ _ z.0)

module _ (g : Given) (w : Scene) (s : Picture) (h : House) (o : Fits g w s h) where
  -- what a room has heard is posted, so house and picture know it as the same batch
  pub known : (k b : ℕ) → member b (s.heard k) ≡ true → ((works g h).batch b ≡ w.works.batch b) × ((works g h).master b ≡ w.works.master b)
  known k b m = let l = o.wire.heard_posted k b (ap (member b) (sym (o.wire.heard_is k)) ∙ m) in (o.batches b l, o.masters b l)

  pub heard-known : (k b : ℕ) → heard_here (h.room k) b ≡ true → ((works g h).batch b ≡ w.works.batch b) × ((works g h).master b ≡ w.works.master b)
  heard-known k b m = known k b (sym (heard-listed w s o.inv k (h.room k) (o.rooms k) b) ∙ m)

  pub in_room-released : (k b : ℕ) → member b (h.room k).installed ≡ true → member b s.released ≡ true
  in_room-released k b m = o.inv.installed_released k b ((o.rooms k).installed_is b ∙ m)

  pub in_room-placed : (k b : ℕ) → member b (h.room k).installed ≡ true → member b (order_of w s) ≡ true
  in_room-placed k b m = installed-placed w s o.inv k b ((o.rooms k).installed_is b ∙ m)
