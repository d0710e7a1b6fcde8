-- What a ledger knows of itself.
use Rattle.std.specs.Prelude.{◌≡◌, ℕ, ◌+◌, ◌<◌, ◌≤◌, Bool, true, false, ◌||◌, List, [], ◌∷◌, ◌++◌, map, length, get_or, vec_items, vec_len, ◌==◌, slice_index_or, slice_set, refl}
use Rattle.std.proofs.Common.{sym, ap, subst, ◌∙◌, arith, length-set}
use Rattle.std.proofs.Math.Logic.{∥∥₁_elim, ∥∥₁_map}
use denote.Struct.Props.{props}
use Rattle.std.proofs.lemmas.List.{map_push, map-set, length-map, length_push}
use Rattle.std.proofs.Math.Seq.{map-set_same}
use Rattle.batches.specs.Sealed.{batch_of}
use Rattle.wire.specs.Wire.{Wire, Posted, new_wire}
use Rattle.wire.specs.declared.announcement.Announcement.{Announcement}
use Rattle.wire.specs.Calls.{Sound, Chosen, with_post, with_number, with_heard, with_taken, with_announced, with_received, announced_before}
use Rattle.lists.specs.Words.{updated}
use Rattle.wires.specs.Kept.{Kept, blank, wire_of, also_told, also_taken, also_announced, also_received, announced_in, trues}
use Rattle.wires.specs.Parts.{posted_of, marks_of, kept_of, kept_in, announced_by}
use Rattle.wires.specs.Meaning.{meaning_of}
use Rattle.wires.specs.declared.ledger.Ledger.{Ledger}
use Rattle.wires.specs.declared.post.Post.{Post}
use Rattle.wires.specs.declared.page.Page.{Page}
use Rattle.wires.proofs.Words.{updated_each}
use Rattle.wires.proofs.Marks.{trues-few, trues-push, unmarked-push, trues-set, mark_set, announced-push}
use Rattle.wires.proofs.Pages.{page-read, page-set, part_old, part_new, told-wire, taken-wire, announced-wire, received-wire}
use Rattle.wires.proofs.Sounds.{number_fits, heard-fits, few-numbered}

module _ (l : Ledger) where
  -- as many posts as places used
  pub posts-len : length (meaning_of l).posts ≡ vec_len l.posts
  posts-len = length-map (vec_items l.posts) posted_of ∙ sym l.posts.ok.0

  pub posts-few : vec_len l.posts ≤ 256
  posts-few = let e = posts-len in ∥∥₁_elim l.sound (hlevel props) (λ s. omega (arith, s.few))

  -- a mark for each post
  abbrev marks : List Bool
  marks = marks_of (vec_items l.posts)

  marks-len : length marks ≡ vec_len l.posts
  marks-len = length-map (vec_items l.posts) (λ (p : Post). p.announced) ∙ sym l.posts.ok.0

  marks-few : length marks ≤ 256
  marks-few = let e = marks-len in let few = posts-few in omega arith

  pub batch-below : (b : ℕ) → b < length (meaning_of l).posts → b < vec_len l.posts
  batch-below b h = let e = posts-len in omega arith

  pub mark-below : (b : ℕ) → b < length (meaning_of l).posts → b < length marks
  mark-below b h = let e = posts-len in let f = marks-len in omega arith

  -- a chosen batch fits
  pub chosen-small : (list : List ℕ) (b : ℕ) → Chosen (meaning_of l) list b → b < 256
  chosen-small list b chosen = let e = posts-len in let f = posts-few in omega (arith, chosen.posted)

  pub number-place : (b : ℕ) → Chosen (meaning_of l) (meaning_of l).definitive b → length (meaning_of l).definitive < 256
  number-place b chosen = ∥∥₁_elim l.sound (hlevel props) (λ s. number_fits (meaning_of l) s b chosen)

  pub tell-place : (room b : ℕ) → Chosen (meaning_of l) ((meaning_of l).tentative room) b → length ((meaning_of l).tentative room) < 256
  tell-place room b chosen = ∥∥₁_elim l.sound (hlevel props) (λ s. heard-fits (meaning_of l) s room b chosen)

  pub numbered-few : length (meaning_of l).definitive ≤ 256
  numbered-few = ∥∥₁_elim l.sound (hlevel props) (λ s. few-numbered (meaning_of l) s)

  pub announced-few : (sender : ℕ) → length ((meaning_of l).announced sender) ≤ 256
  announced-few sender = omega (arith, l.counted sender, trues-few marks, marks-few)

  -- the marks tell which batches are announced
  pub marked_is : (b : ℕ) → slice_index_or marks b false ≡ announced_before (meaning_of l) b
  unfolding announced_in
  marked_is b = l.marked b

  -- a batch that is not announced leaves a place with each sender
  pub announce-fits : (b sender : ℕ) → b < length (meaning_of l).posts → announced_before (meaning_of l) b ≡ false → length ((meaning_of l).announced sender) < 256
  announce-fits b sender h new =
      let more = trues-set marks b (mark-below b h) (marked_is b ∙ new) in
      let few = trues-few (slice_set marks b true) in
      omega (arith, l.counted sender, length-set marks b true, marks-few)

  -- what a call leaves is sound where the call keeps soundness
  pub still-sound : (v due : Wire) → v ≡ due → (Sound (meaning_of l) → Sound due) → ∥ Sound v ∥₁
  still-sound v due e keeps = ∥∥₁_map l.sound (λ s. subst Sound (sym e) (keeps s))

pub open_after : (posts : List Post) (definitive : List ℕ) (pages : List Page) → posts ≡ [] → definitive ≡ [] → kept_in pages ≡ (λ _. blank) → wire_of (map posted_of posts) definitive (kept_in pages) ≡ new_wire
open_after posts definitive pages p d k = λ i. wire_of (map posted_of (p i)) (d i) (k i)

nothing_announced : (b : ℕ) → announced_in (λ _. []) b ≡ false
unfolding announced_in
nothing_announced b = refl

-- with no posts and blank pages nothing is announced
pub marked-none : (posts : List Post) (pages : List Page) → posts ≡ [] → kept_in pages ≡ (λ _. blank) → (b : ℕ) → slice_index_or (marks_of posts) b false ≡ announced_in (announced_by pages) b
marked-none posts pages p k b =
    ap (λ (ps : List Post). get_or (marks_of ps) b false) p
    ∙ sym (ap (λ (kept : ℕ → Kept). announced_in (λ sender. (kept sender).announced) b) k ∙ nothing_announced b)

pub counted_none : (posts : List Post) (pages : List Page) → kept_in pages ≡ (λ _. blank) → (sender : ℕ) → length (announced_by pages sender) ≤ trues (marks_of posts)
counted_none posts pages k sender = let e = ap (λ (kept : ℕ → Kept). length (kept sender).announced) k in omega arith

-- What each write leaves: the wire that the call is to leave, and what a ledger knows of itself.

-- a post is put at the end, which nobody has announced yet
module _ (l : Ledger) (posts : List Post) (p : Post) (pushed : posts ≡ vec_items l.posts ++ p ∷ []) (silent : p.announced ≡ false) where
  pub post-after : wire_of (map posted_of posts) (meaning_of l).definitive (kept_in (vec_items l.pages)) ≡ with_post (meaning_of l) p.room.number (batch_of p.batch)
  post-after =
      ap (λ (ps : List Posted). wire_of ps (meaning_of l).definitive (kept_in (vec_items l.pages))) (ap (map posted_of) pushed ∙ map_push posted_of (vec_items l.posts) p)

  marks-after : marks_of posts ≡ marks_of (vec_items l.posts) ++ false ∷ []
  marks-after = ap marks_of pushed ∙ map_push (λ (q : Post). q.announced) (vec_items l.posts) p ∙ ap (λ t. marks_of (vec_items l.posts) ++ t ∷ []) silent

  pub marked-posted : (b : ℕ) → slice_index_or (marks_of posts) b false ≡ announced_in (announced_by (vec_items l.pages)) b
  marked-posted b = ap (λ (ms : List Bool). get_or ms b false) marks-after ∙ unmarked-push (marks_of (vec_items l.posts)) b ∙ l.marked b

  pub counted-posted : (sender : ℕ) → length (announced_by (vec_items l.pages) sender) ≤ trues (marks_of posts)
  counted-posted sender = let e = ap trues marks-after in omega (arith, l.counted sender, trues-push (marks_of (vec_items l.posts)))

pub number-after : (l : Ledger) (definitive : List ℕ) (b : ℕ) → definitive ≡ (meaning_of l).definitive ++ b ∷ [] → wire_of (meaning_of l).posts definitive (kept_in (vec_items l.pages)) ≡ with_number (meaning_of l) b
number-after l definitive b e = ap (λ (ds : List ℕ). wire_of (meaning_of l).posts ds (kept_in (vec_items l.pages))) e

-- one page was written: p was read, q stands there now, and what q keeps is F of what p kept
module _ (l : Ledger) (room : ℕ) (p q : Page) (small : room < 8) (read : p ≡ slice_index_or (vec_items l.pages) room p) where
  abbrev kept : ℕ → Kept
  kept = kept_in (vec_items l.pages)

  abbrev pages_after : List Page
  pages_after = slice_set (vec_items l.pages) room q

  abbrev wire_after : Wire
  wire_after = wire_of (meaning_of l).posts (meaning_of l).definitive (kept_in pages_after)

  within : room < length (vec_items l.pages)
  within = omega (arith, l.eight, l.pages.ok.0)

  -- what was read is what is kept for the room
  pub read_is : kept_of p ≡ kept room
  read_is = page-read (vec_items l.pages) room p within read

  kept-after : (F : Kept → Kept) → kept_of q ≡ F (kept_of p) → kept_in pages_after ≡ updated kept room (F (kept room))
  kept-after F wrote = page-set (vec_items l.pages) room q within ∙ ap (updated kept room) (wrote ∙ ap F read_is)

  wired : (F : Kept → Kept) (due : Wire) → kept_of q ≡ F (kept_of p) → wire_of (meaning_of l).posts (meaning_of l).definitive (updated kept room (F (kept room))) ≡ due → wire_after ≡ due
  wired F due wrote e = ap (wire_of (meaning_of l).posts (meaning_of l).definitive) (kept-after F wrote) ∙ e

  pub told-after : (b : ℕ) → kept_of q ≡ also_told (kept_of p) b → wire_after ≡ with_heard (meaning_of l) room b
  told-after b wrote = wired (λ k. also_told k b) _ wrote (told-wire (meaning_of l).posts (meaning_of l).definitive kept room b)

  pub taken-after : kept_of q ≡ also_taken (kept_of p) → wire_after ≡ with_taken (meaning_of l) room
  taken-after wrote = wired also_taken _ wrote (taken-wire (meaning_of l).posts (meaning_of l).definitive kept room)

  pub received-after : (sender : ℕ) → kept_of q ≡ also_received (kept_of p) sender → wire_after ≡ with_received (meaning_of l) room sender
  received-after sender wrote = wired (λ k. also_received k sender) _ wrote (received-wire (meaning_of l).posts (meaning_of l).definitive kept room sender)

  -- where one is put at the end and its post is marked, there is one mark more
  module _ (a : Announcement) (wrote : kept_of q ≡ also_announced (kept_of p) a) (posted : a.batch < length (meaning_of l).posts)
      (old new : Post) (found : old ≡ slice_index_or (vec_items l.posts) a.batch old) (same : posted_of new ≡ posted_of old) (marks : new.announced ≡ true) where
    abbrev posts_after : List Post
    posts_after = slice_set (vec_items l.posts) a.batch new

    same-posts : map posted_of posts_after ≡ (meaning_of l).posts
    same-posts = map-set_same posted_of (vec_items l.posts) a.batch new old (same ∙ ap posted_of found)

    marks-set : marks_of posts_after ≡ slice_set (marks_of (vec_items l.posts)) a.batch true
    marks-set = map-set (λ (p : Post). p.announced) (vec_items l.posts) a.batch new ∙ ap (slice_set (marks_of (vec_items l.posts)) a.batch) marks

    pub announced-after : wire_of (map posted_of posts_after) (meaning_of l).definitive (kept_in pages_after) ≡ with_announced (meaning_of l) room a
    announced-after =
        ap (λ (ps : List Posted). wire_of ps (meaning_of l).definitive (kept_in pages_after)) same-posts
        ∙ wired (λ k. also_announced k a) _ wrote (announced-wire (meaning_of l).posts (meaning_of l).definitive kept room a)

    one_announced : announced_by pages_after ≡ updated (announced_by (vec_items l.pages)) room (announced_by (vec_items l.pages) room ++ a ∷ [])
    one_announced =
        let announced : (ℕ → Kept) → ℕ → List Announcement = λ kept sender. (kept sender).announced in
        ap announced (kept-after (λ k. also_announced k a) wrote) ∙ part_new kept room (λ k. k.announced) (also_announced (kept room) a)

    pub marked_more : (b : ℕ) → slice_index_or (marks_of posts_after) b false ≡ announced_in (announced_by pages_after) b
    marked_more b =
        ap (λ (ms : List Bool). get_or ms b false) marks-set
        ∙ mark_set (marks_of (vec_items l.posts)) a.batch (mark-below l a.batch posted) b
        ∙ ap (λ t. t || b == a.batch) (l.marked b)
        ∙ sym (ap (λ (f : ℕ → List Announcement). announced_in f b) one_announced ∙ announced-push (announced_by (vec_items l.pages)) room a b small)

    pub counted_more : announced_before (meaning_of l) a.batch ≡ false → (sender : ℕ) → length (announced_by pages_after sender) ≤ trues (marks_of posts_after)
    counted_more new sender =
        let more = ap trues marks-set ∙ trues-set (marks_of (vec_items l.posts)) a.batch (mark-below l a.batch posted) (marked_is l a.batch ∙ new) in
        let e = ap (λ (f : ℕ → List Announcement). length (f sender)) one_announced in
        let each = updated_each (λ _ list. length list ≤ trues (marks_of (vec_items l.posts)) + 1) (announced_by (vec_items l.pages)) room (announced_by (vec_items l.pages) room ++ a ∷ []) (omega (arith, l.counted room, length_push (announced_by (vec_items l.pages) room) a)) (λ n. omega (arith, l.counted n)) sender in
        omega arith

  -- where no announcement is touched, the marks stay right
  module _ (F : Kept → Kept) (wrote : kept_of q ≡ F (kept_of p)) (silent : (k : Kept) → (F k).announced ≡ k.announced) where
    same-announced : announced_by pages_after ≡ announced_by (vec_items l.pages)
    same-announced =
        let announced : (ℕ → Kept) → ℕ → List Announcement = λ kept sender. (kept sender).announced in
        ap announced (kept-after F wrote) ∙ part_old kept room (λ k. k.announced) (F (kept room)) (silent (kept room))

    pub marked-after : (b : ℕ) → slice_index_or (marks_of (vec_items l.posts)) b false ≡ announced_in (announced_by pages_after) b
    marked-after b = l.marked b ∙ ap (λ (f : ℕ → List Announcement). announced_in f b) (sym same-announced)

    pub counted-after : (sender : ℕ) → length (announced_by pages_after sender) ≤ trues (marks_of (vec_items l.posts))
    counted-after sender = let e = ap (λ (f : ℕ → List Announcement). length (f sender)) same-announced in omega (arith, l.counted sender)
