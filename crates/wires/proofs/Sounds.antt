-- A new wire is sound, and every call that is taken keeps a wire sound: each part of `Sound` speaks of one list or count,
-- and a call changes one of them at one place.
use Rattle.std.specs.Prelude.{◌≡◌, ℕ, ◌<◌, ◌≤◌, true, List, [], ◌∷◌, ◌++◌, length, nat_lt, refl}
use Rattle.std.proofs.Common.{arith}
use Rattle.std.proofs.lemmas.Bool.{lt-ltb}
use Rattle.std.proofs.lemmas.List.{length_push}
use Rattle.lists.specs.Words.{all, member, Distinct}
use Rattle.batches.specs.Batches.{Batch, batch_right}
use Rattle.wire.specs.Wire.{Posted, Wire, new_wire}
use Rattle.wire.specs.Calls.{Sound, Chosen, with_post, with_number, with_heard, with_taken, with_announced, with_received, amounts_small}
use Rattle.wire.specs.declared.announcement.Announcement.{Announcement}
use Rattle.lists.proofs.Members.{member-push, all_push}
use Rattle.lists.proofs.Distincts.{distinct_push, distinct_short}
use Rattle.wires.proofs.Words.{updated_each}

pub new-sound : Sound new_wire
new-sound = record {
  few = omega arith;
  batches_right = refl;
  posts_rooms = refl;
  numbered_once = tt;
  numbered_posted = λ b m. grind arith;
  heard_once = λ room. tt;
  heard_posted = λ room b m. grind arith;
  announced_small = λ sender. refl;
  taken_numbered = λ room. omega arith;
  received_announced = λ room sender. omega arith;
}

module _ (w : Wire) (s : Sound w) where
  pub post-sound : (room : ℕ) (b : Batch) → room < 8 → length w.posts < 256 → batch_right b ≡ true → Sound (with_post w room b)
  post-sound room b small few right =
      let p : Posted = record { room = room; batch = b } in
      let more = length_push w.posts p in
      record {
        few = omega arith;
        batches_right = all_push (λ (p : Posted). batch_right p.batch) w.posts p s.batches_right right;
        posts_rooms = all_push (λ (p : Posted). nat_lt p.room 8) w.posts p s.posts_rooms (lt-ltb room 8 small);
        numbered_once = s.numbered_once;
        numbered_posted = λ b m. omega (arith, s.numbered_posted b m);
        heard_once = s.heard_once;
        heard_posted = λ room b m. omega (arith, s.heard_posted room b m);
        announced_small = s.announced_small;
        taken_numbered = s.taken_numbered;
        received_announced = s.received_announced;
      }

  -- a list of posted batches has none but posted ones after one more
  posted-push : (list : List ℕ) (b : ℕ) → Chosen w list b → ((x : ℕ) → member x list ≡ true → x < length w.posts) → (x : ℕ) → member x (list ++ b ∷ []) ≡ true → x < length w.posts
  posted-push list b chosen old x m =
      let e = member-push x list b in
      let new = chosen.posted in
      let there = old x in
      grind arith

  pub number-sound : (b : ℕ) → Chosen w w.definitive b → Sound (with_number w b)
  number-sound b chosen =
      let more = length_push w.definitive b in
      record {
        few = s.few;
        batches_right = s.batches_right;
        posts_rooms = s.posts_rooms;
        numbered_once = distinct_push w.definitive b s.numbered_once chosen.new;
        numbered_posted = posted-push w.definitive b chosen s.numbered_posted;
        heard_once = s.heard_once;
        heard_posted = s.heard_posted;
        announced_small = s.announced_small;
        taken_numbered = λ room. omega (arith, s.taken_numbered room);
        received_announced = s.received_announced;
      }

  pub heard-sound : (room b : ℕ) → Chosen w (w.tentative room) b → Sound (with_heard w room b)
  heard-sound room b chosen =
      record {
        few = s.few;
        batches_right = s.batches_right;
        posts_rooms = s.posts_rooms;
        numbered_once = s.numbered_once;
        numbered_posted = s.numbered_posted;
        heard_once = updated_each (λ _ list. Distinct list) w.tentative room _ (distinct_push (w.tentative room) b (s.heard_once room) chosen.new) s.heard_once;
        heard_posted = updated_each (λ _ list. (x : ℕ) → member x list ≡ true → x < length w.posts) w.tentative room _ (posted-push (w.tentative room) b chosen (s.heard_posted room)) s.heard_posted;
        announced_small = s.announced_small;
        taken_numbered = s.taken_numbered;
        received_announced = s.received_announced;
      }

  pub taken-sound : (room : ℕ) → w.taken room < length w.definitive → Sound (with_taken w room)
  taken-sound room more =
      record {
        few = s.few;
        batches_right = s.batches_right;
        posts_rooms = s.posts_rooms;
        numbered_once = s.numbered_once;
        numbered_posted = s.numbered_posted;
        heard_once = s.heard_once;
        heard_posted = s.heard_posted;
        announced_small = s.announced_small;
        taken_numbered = updated_each (λ _ n. n ≤ length w.definitive) w.taken room _ (omega arith) s.taken_numbered;
        received_announced = s.received_announced;
      }

  pub announced-sound : (sender : ℕ) (a : Announcement) → amounts_small a ≡ true → Sound (with_announced w sender a)
  announced-sound sender a small =
      record {
        few = s.few;
        batches_right = s.batches_right;
        posts_rooms = s.posts_rooms;
        numbered_once = s.numbered_once;
        numbered_posted = s.numbered_posted;
        heard_once = s.heard_once;
        heard_posted = s.heard_posted;
        announced_small = updated_each (λ _ list. all amounts_small list ≡ true) w.announced sender _ (all_push amounts_small (w.announced sender) a (s.announced_small sender) small) s.announced_small;
        taken_numbered = s.taken_numbered;
        received_announced = λ room. updated_each (λ k list. w.received room k ≤ length list) w.announced sender _ (omega (arith, s.received_announced room sender, length_push (w.announced sender) a)) (s.received_announced room);
      }

  pub received-sound : (room sender : ℕ) → w.received room sender < length (w.announced sender) → Sound (with_received w room sender)
  received-sound room sender more =
      record {
        few = s.few;
        batches_right = s.batches_right;
        posts_rooms = s.posts_rooms;
        numbered_once = s.numbered_once;
        numbered_posted = s.numbered_posted;
        heard_once = s.heard_once;
        heard_posted = s.heard_posted;
        announced_small = s.announced_small;
        taken_numbered = s.taken_numbered;
        received_announced = updated_each (λ _ counts. (k : ℕ) → counts k ≤ length (w.announced k)) w.received room _ (updated_each (λ k n. n ≤ length (w.announced k)) (w.received room) sender _ (omega arith) (s.received_announced room)) s.received_announced;
      }

  -- where a batch may be chosen there is place for it
  chosen-fits : (list : List ℕ) (b : ℕ) → Distinct list → ((x : ℕ) → member x list ≡ true → x < length w.posts) → Chosen w list b → length list < 256
  chosen-fits list b once posted chosen =
      let whole = distinct_short (length w.posts) (list ++ b ∷ []) (distinct_push list b once chosen.new) (posted-push list b chosen posted) in
      omega (arith, s.few, length_push list b)

  pub number_fits : (b : ℕ) → Chosen w w.definitive b → length w.definitive < 256
  number_fits b = chosen-fits w.definitive b s.numbered_once s.numbered_posted

  pub heard-fits : (room b : ℕ) → Chosen w (w.tentative room) b → length (w.tentative room) < 256
  heard-fits room b = chosen-fits (w.tentative room) b (s.heard_once room) (s.heard_posted room)

  -- no more batches are numbered than posted
  pub few-numbered : length w.definitive ≤ 256
  few-numbered = let whole = distinct_short (length w.posts) w.definitive s.numbered_once s.numbered_posted in omega (arith, s.few)
