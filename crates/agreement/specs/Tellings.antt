-- What a list of calls says with its answers: what each taken call adds to the posts, to the definitive list and to the
-- lists of a room.
use Rattle.std.specs.Prelude.{◌≡◌, ℕ, Bool, true, false, cond, not, ◌&&◌, List, [], ◌∷◌, ◌++◌, take, ◌==◌}
use Rattle.std.specs.List.{flat_map}
use Rattle.lists.specs.Words.{member}
use Rattle.wire.specs.Wire.{Posted}
use Rattle.wire.specs.Calls.{next_entry}
use Rattle.agreement.specs.Rooms.{gone_ahead}
use Rattle.agreement.specs.Houses.{Given, House, works}
use Rattle.agreement.specs.Calls.{Call, post, number, hear, settle, pick, run, release, install, wish, amount, Answer, refused, done, batch, settled, ran, amount_is, picked, Answers, refuses, posts, numbers, hears, settles, runs, releases, installs, wishes, tells, picks, Performed, opens, also}

-- the batch that an answer names
abbrev pub named : Answer → List ℕ
named (refused e) = []
named done = []
named (batch b) = b ∷ []
named (settled b ahead thrown) = b ∷ []
named (ran outcome step) = []
named (amount_is grams) = []
named (picked o) = []

-- the call was taken
abbrev pub taken : Answer → Bool
taken (refused e) = false
taken done = true
taken (batch b) = true
taken (settled b ahead thrown) = true
taken (ran outcome step) = true
taken (amount_is grams) = true
taken (picked o) = true

-- what post took
abbrev pub posted_by : Call → Answer → List Posted
posted_by (post room b) a = cond (taken a) ((record { room = room; batch = b }) ∷ []) []
posted_by number a = []
posted_by (hear r) a = []
posted_by (settle r) a = []
posted_by (pick r) a = []
posted_by (run r b) a = []
posted_by (release r b) a = []
posted_by (install r m) a = []
posted_by (wish b) a = []
posted_by (amount r x) a = []

-- what number answered
abbrev pub numbered_by : Call → Answer → List ℕ
numbered_by (post room b) a = []
numbered_by number a = named a
numbered_by (hear r) a = []
numbered_by (settle r) a = []
numbered_by (pick r) a = []
numbered_by (run r b) a = []
numbered_by (release r b) a = []
numbered_by (install r m) a = []
numbered_by (wish b) a = []
numbered_by (amount r x) a = []

-- what hear answered to room k
abbrev pub heard_by : ℕ → Call → Answer → List ℕ
heard_by k (post room b) a = []
heard_by k number a = []
heard_by k (hear r) a = cond (k == r) (named a) []
heard_by k (settle r) a = []
heard_by k (pick r) a = []
heard_by k (run r b) a = []
heard_by k (release r b) a = []
heard_by k (install r m) a = []
heard_by k (wish b) a = []
heard_by k (amount r x) a = []

-- what settle answered to room k
abbrev pub entered_by : ℕ → Call → Answer → List ℕ
entered_by k (post room b) a = []
entered_by k number a = []
entered_by k (hear r) a = []
entered_by k (settle r) a = cond (k == r) (named a) []
entered_by k (pick r) a = []
entered_by k (run r b) a = []
entered_by k (release r b) a = []
entered_by k (install r m) a = []
entered_by k (wish b) a = []
entered_by k (amount r x) a = []

-- the releases taken and the installs answered in room k
abbrev pub installed_by : ℕ → Call → Answer → List ℕ
installed_by k (post room b) a = []
installed_by k number a = []
installed_by k (hear r) a = []
installed_by k (settle r) a = []
installed_by k (pick r) a = []
installed_by k (run r b) a = []
installed_by k (release r b) a = cond (k == r) (cond (taken a) (b ∷ []) []) []
installed_by k (install r m) a = cond (k == r) (named a) []
installed_by k (wish b) a = []
installed_by k (amount r x) a = []

-- all that a list of calls adds
abbrev pub gathered : {A : Type 0} → (Call → Answer → List A) → List (Call × Answer) → List A
gathered f l = flat_map (λ e. f e.0 e.1) l

-- the batches that a call of room k's settle sends ahead or answers
abbrev pub settled_now : {g : Given} {h h' : House} {c : Call} {a : Answer} → ℕ → Answers g h c a h' → List ℕ
settled_now k (refuses _) = []
settled_now k (posts _ _) = []
settled_now k (numbers _ _) = []
settled_now k (hears _ _) = []
settled_now {g} k (settles {h = h} {k = r} _) = cond (k == r) (gone_ahead (works g h) r (h.room r) (next_entry h.wire r) ++ next_entry h.wire r ∷ []) []
settled_now k (runs _) = []
settled_now k (releases _ _) = []
settled_now k (installs _ _) = []
settled_now k wishes = []
settled_now k (tells _) = []
settled_now k (picks _ _) = []

-- the batches that room k's settles have sent ahead or answered
abbrev pub settled_ever : {g : Given} {l : List (Call × Answer)} {h : House} → ℕ → Performed g l h → List ℕ
settled_ever k (opens _) = []
settled_ever k (also p d) = settled_ever k p ++ settled_now k d

-- The lists of a house are what was answered.
pub record Told (g : Given) (l : List (Call × Answer)) (h : House) : Type 0 where
  pub posted : h.wire.posts ≡ gathered posted_by l
  pub numbered : h.wire.definitive ≡ gathered numbered_by l
  pub heard : (k : ℕ) → h.wire.tentative k ≡ gathered (heard_by k) l
  pub entered : (k : ℕ) → take (h.wire.taken k) h.wire.definitive ≡ gathered (entered_by k) l
  pub installed : (k : ℕ) → (h.room k).installed ≡ gathered (installed_by k) l
  -- a room's settled list holds exactly the batches that a settle there answered or sent ahead and that are not installed
  pub settled : (p : Performed g l h) (k b : ℕ) → member b (h.room k).settled ≡ (member b (settled_ever k p) && not (member b (h.room k).installed))
