-- A picture of a house: the few things that the agreement rests on, without lists of who waits. Each call changes the
-- picture in one way, under a condition, and an invariant of pictures holds what the promise needs.
use Rattle.std.proofs.Common.{◌≡◌, ℕ, Bool, true, false, cond, not, ◌&&◌, ◌||◌, eqb, ltb, List, [], ◌∷◌, ◌++◌}
use Rattle.lists.specs.Words.{member, any, keep, first, place, before, updated, Distinct}
use Rattle.stock.specs.Stock.{Amounts}
use Rattle.batches.specs.Runs as runs
use Rattle.order.specs.Works.{Works, has_base, share, Right}
use Rattle.order.specs.Order.{house_order, serial_run}
use Rattle.order.specs.Laws.{goes_with, serializer, Closed}
use Rattle.agreement.specs.Promises.{own_heard}

-- what stays: right batches with their masters, and the opening amounts
pub record Scene : Type 0 where
  pub works : Works
  pub right : Right works
  pub opening : Amounts

pub record Picture : Type 0 where
  -- the definitive list, and each room's tentative list
  pub definitive : List ℕ
  pub heard : ℕ → List ℕ
  -- the definitive entries that each room has taken
  pub taken : ℕ → List ℕ
  -- the released batches of all rooms, in the order of their release
  pub released : List ℕ
  -- room, batch: installed there; marked there, and with which amounts
  pub installed : ℕ → ℕ → Bool
  pub marked : ℕ → ℕ → Bool
  pub result : ℕ → ℕ → Amounts
  pub book : ℕ → Amounts
  -- the amounts announced for a batch
  pub announced : ℕ → Amounts

abbrev pub order_of : Scene → Picture → List ℕ
order_of w s = house_order w.works s.heard s.definitive

-- what batch b leaves
abbrev pub after : Scene → ℕ → Amounts → Amounts
after w b m = (runs.run (w.works.batch b) m).after

-- settling q in room k settles a: the room's own batches go ahead, others stand alone
abbrev pub sits : Scene → Picture → ℕ → ℕ → ℕ → Bool
sits w s k a q = cond (eqb (w.works.master a) k) (goes_with w.works s.heard a q) (eqb a q)

-- the place of a's serializer in what room k has taken: past the end while a waits
abbrev pub seat : Scene → Picture → ℕ → ℕ → ℕ
seat w s k a = first (sits w s k a) (s.taken k)

-- c stands before b in room k's settled and waiting lists
abbrev pub sooner : Scene → Picture → ℕ → ℕ → ℕ → Bool
sooner w s k c b = ltb (seat w s k c) (seat w s k b) || (eqb (seat w s k c) (seat w s k b) && ltb (place c (s.heard k)) (place b (s.heard k)))

-- b is first in the line of each of its bases in room k
abbrev pub First : Scene → Picture → ℕ → ℕ → Type 0
First w s k b = (c : ℕ) → member c (s.heard k) ≡ true → s.installed k c ≡ false → share w.works c b ≡ true → sooner w s k c b ≡ false

pub record Invariant (w : Scene) (s : Picture) : Type 0 where
  pub heard_once : (n : ℕ) → Distinct (s.heard n)
  pub numbered_once : Distinct s.definitive
  -- each room has taken a front of the definitive list, of batches that it has heard
  pub front : (k : ℕ) → (rest : List ℕ) × (s.definitive ≡ s.taken k ++ rest)
  pub taken_heard : (k q : ℕ) → member q (s.taken k) ≡ true → member q (s.heard k) ≡ true
  -- what is installed is heard and released; what is released is installed at its master, who had settled it
  pub installed_released : (k b : ℕ) → s.installed k b ≡ true → member b s.released ≡ true
  pub installed_heard : (k b : ℕ) → s.installed k b ≡ true → member b (s.heard k) ≡ true
  pub home_first : (b : ℕ) → member b s.released ≡ true → s.installed (w.works.master b) b ≡ true
  pub settled_first : (b : ℕ) → member b s.released ≡ true → any (goes_with w.works s.heard b) (s.taken (w.works.master b)) ≡ true
  -- a master's batches are installed elsewhere in the order of their release
  pub in_turn : (k a b : ℕ) → before s.released a b ≡ true → w.works.master a ≡ w.works.master b → s.installed k b ≡ true → s.installed k a ≡ true
  -- with b, what comes before it in the house order and shares a base is installed, and is released before it
  pub closed : (k : ℕ) → Closed w.works (s.installed k) (order_of w s)
  pub release_order : (a b : ℕ) → member b s.released ≡ true → before (order_of w s) a b ≡ true → share w.works a b ≡ true → before s.released a b ≡ true
  -- books and announcements hold what serial runs leave
  pub books : (k x : ℕ) → s.book k x ≡ serial_run w.works (keep (s.installed k) (order_of w s)) w.opening x
  pub announcements : (b x : ℕ) → member b s.released ≡ true → has_base w.works b x ≡ true →
      s.announced b x ≡ after w b (serial_run w.works (keep (λ a. before s.released a b) (order_of w s)) w.opening) x
  -- a marked batch is the room's own, heard and not installed, first in its lines, and its mark is its run on the book as it is
  pub marks : (k b : ℕ) → s.marked k b ≡ true → (w.works.master b ≡ k) × (member b (s.heard k) ≡ true) × (s.installed k b ≡ false)
  pub marks_first : (k b : ℕ) → s.marked k b ≡ true → First w s k b
  pub marks_right : (k b x : ℕ) → s.marked k b ≡ true → has_base w.works b x ≡ true → s.result k b x ≡ after w b (s.book k) x

-- the order in which room k settles
abbrev pub own_order : Scene → Picture → ℕ → List ℕ
own_order w s k = house_order w.works (own_heard s.heard k) (s.taken k)

-- its settled and its waiting list
abbrev pub settled_of : Scene → Picture → ℕ → List ℕ
settled_of w s k = keep (λ a. not (s.installed k a)) (own_order w s k)

abbrev pub waiting_of : Scene → Picture → ℕ → List ℕ
waiting_of w s k = keep (λ a. not (s.installed k a) && not (any (sits w s k a) (s.taken k))) (s.heard k)

-- a table with one entry replaced
abbrev pub put : (ℕ → ℕ → Bool) → ℕ → ℕ → Bool → ℕ → ℕ → Bool
put f k b v n a = cond (eqb n k && eqb a b) v (f n a)

-- the amounts of b's bases replaced
abbrev pub laid_on : Scene → ℕ → Amounts → Amounts → Amounts
laid_on w b new old x = cond (has_base w.works b x) (new x) (old x)

-- what each call makes of a picture, and what it asks

abbrev pub new_picture : Scene → Picture
new_picture w = record {
  definitive = [];
  heard = (λ _. []);
  taken = (λ _. []);
  released = [];
  installed = (λ _ _. false);
  marked = (λ _ _. false);
  result = (λ _ _. w.opening);
  book = (λ _. w.opening);
  announced = (λ _. w.opening);
}

abbrev pub picture_number : Picture → ℕ → Picture
picture_number s q = record {
  definitive = s.definitive ++ q ∷ [];
  heard = s.heard;
  taken = s.taken;
  released = s.released;
  installed = s.installed;
  marked = s.marked;
  result = s.result;
  book = s.book;
  announced = s.announced;
}

abbrev pub picture_hear : Picture → ℕ → ℕ → Picture
picture_hear s k x = record {
  definitive = s.definitive;
  heard = updated s.heard k (s.heard k ++ x ∷ []);
  taken = s.taken;
  released = s.released;
  installed = s.installed;
  marked = s.marked;
  result = s.result;
  book = s.book;
  announced = s.announced;
}

-- marks of what still waits and shares a base with q are thrown, if q waits
abbrev pub mark_stays : Scene → Picture → ℕ → ℕ → ℕ → Bool
mark_stays w s k q b = s.marked k b && ((any (goes_with w.works s.heard b) (s.taken k ++ q ∷ []) || not (share w.works b q)) || not (member q (waiting_of w s k)))

abbrev pub picture_settle : Scene → Picture → ℕ → ℕ → Picture
picture_settle w s k q = record {
  definitive = s.definitive;
  heard = s.heard;
  taken = updated s.taken k (s.taken k ++ q ∷ []);
  released = s.released;
  installed = s.installed;
  marked = updated s.marked k (mark_stays w s k q);
  result = s.result;
  book = s.book;
  announced = s.announced;
}

pub record MaySettle (s : Picture) (k q : ℕ) : Type 0 where
  pub rest : List ℕ
  pub next : s.definitive ≡ s.taken k ++ q ∷ rest
  pub heard : member q (s.heard k) ≡ true

abbrev pub picture_run : Scene → Picture → ℕ → ℕ → Picture
picture_run w s k b = record {
  definitive = s.definitive;
  heard = s.heard;
  taken = s.taken;
  released = s.released;
  installed = s.installed;
  marked = put s.marked k b true;
  result = (λ n a. cond (eqb n k && eqb a b) (after w b (s.book k)) (s.result n a));
  book = s.book;
  announced = s.announced;
}

pub record MayRun (w : Scene) (s : Picture) (k b : ℕ) : Type 0 where
  pub home : w.works.master b ≡ k
  pub heard : member b (s.heard k) ≡ true
  pub new : s.installed k b ≡ false
  pub leading : First w s k b

abbrev pub picture_release : Scene → Picture → ℕ → ℕ → Picture
picture_release w s k b = record {
  definitive = s.definitive;
  heard = s.heard;
  taken = s.taken;
  released = s.released ++ b ∷ [];
  installed = put s.installed k b true;
  marked = put s.marked k b false;
  result = s.result;
  book = updated s.book k (laid_on w b (s.result k b) (s.book k));
  announced = updated s.announced b (s.result k b);
}

pub record MayRelease (w : Scene) (s : Picture) (k b : ℕ) : Type 0 where
  pub marked : s.marked k b ≡ true
  pub settled : any (goes_with w.works s.heard b) (s.taken k) ≡ true

abbrev pub picture_install : Scene → Picture → ℕ → ℕ → Picture
picture_install w s k c = record {
  definitive = s.definitive;
  heard = s.heard;
  taken = s.taken;
  released = s.released;
  installed = put s.installed k c true;
  marked = s.marked;
  result = s.result;
  book = updated s.book k (laid_on w c (s.announced c) (s.book k));
  announced = s.announced;
}

-- the serializer of a batch
abbrev pub serializer_of : Scene → Picture → ℕ → ℕ
serializer_of w s c = serializer w.works s.heard s.definitive c

pub record MayInstall (w : Scene) (s : Picture) (k c : ℕ) : Type 0 where
  pub elsewhere : w.works.master c ≡ k → ⊥
  pub heard : member c (s.heard k) ≡ true
  pub new : s.installed k c ≡ false
  pub released : member c s.released ≡ true
  pub next : (a : ℕ) → before s.released a c ≡ true → w.works.master a ≡ w.works.master c → s.installed k a ≡ true
  pub settled : member (serializer_of w s c) (s.taken k) ≡ true
  pub there : s.installed k (serializer_of w s c) ≡ false
  pub leading : (d : ℕ) → member d (s.heard k) ≡ true → s.installed k d ≡ false → (d ≡ c → ⊥) → share w.works d c ≡ true → sooner w s k d (serializer_of w s c) ≡ false
