-- Serial runs. Batches that share no base commute, so one that shares none with those after it may run last; and what
-- is left of a base depends on the batches with that base, and with them on those before that share a base, alone.
use Rattle.std.proofs.Common.{◌≡◌, ℕ, ◌≤◌, Bool, true, false, cond, ◌||◌, eqb, leb, List, [], ◌∷◌, ◌++◌, length, sym, refl, ap, ◌∙◌, inl, inr, arith}
use mathlib.Core.Path.{fun_ext}
use Rattle.std.proofs.lemmas.Bool.{cases_Bool, cases_eq, and_parts, both_ways, leb-true}
use Rattle.lists.specs.Words.{member, keep, before, Distinct}
use Rattle.lists.proofs.Ends.{snoc_ind}
use Rattle.lists.proofs.Members.{member-head, member-tail, member-old, member-new}
use Rattle.lists.proofs.Keeps.{keep_append, keep_same, member-keep}
use Rattle.lists.proofs.Befores.{before-append, before_last, before_members}
use Rattle.lists.proofs.Distincts.{distinct_front, distinct_last}
use Rattle.sets.specs.Sets.{bases, size}
use Rattle.sets.proofs.Members.{shares_base_lem, shared_base, shares_sym, apart_base}
use Rattle.stock.specs.Stock.{Amounts}
use Rattle.batches.specs.Runs.{run}
use Rattle.order.specs.Works.{Works, set_of, has_base, share, Right}
use Rattle.order.specs.Order.{serial_run}
use Rattle.order.specs.Laws.{Closed}
use Rattle.order.proofs.Runs.{sized_of, run_away, run_alike}

pub share_base : (w : Works) (a b x : ℕ) → has_base w a x ≡ true → has_base w b x ≡ true → share w a b ≡ true
share_base w a b x = shares_base_lem (set_of w a) (set_of w b) x

pub share_sym : (w : Works) (a b : ℕ) → share w a b ≡ true → share w b a ≡ true
share_sym w a b = shares_sym (set_of w a) (set_of w b)

-- a batch that shares a base has one
pub share_self : (w : Works) (a b : ℕ) → share w a b ≡ true → share w a a ≡ true
share_self w a b h = let z = shared_base (set_of w a) (set_of w b) h in share_base w a a z.0 z.1 z.1

-- a right batch has a base
pub right-share : (w : Works) → Right w → (b : ℕ) → share w b b ≡ true
right-share w right b = let z = some_base (bases (set_of w b)) (leb-true _ _ (and_parts (leb 1 (size (set_of w b))) (leb (size (set_of w b)) 8) (sized_of (w.batch b) (right b))).0) in share_base w b b z.0 z.1 z.1
  where
    some_base : (l : List ℕ) → 1 ≤ length l → (x : ℕ) × (member x l ≡ true)
    some_base [] h = absurd (omega arith)
    some_base (x ∷ xs) h = (x, member-head x xs)

apart_sym : (w : Works) (a b : ℕ) → share w a b ≡ false → share w b a ≡ false
apart_sym w a b f = elim (cases_Bool (share w b a)) [ inr n ↦ n | inl t ↦ absurd (both_ways (share w a b) f (share_sym w b a t)) ]

module _ (w : Works) (right : Right w) where
  -- what batch b leaves
  abbrev after : ℕ → Amounts → Amounts
  after b m = (run (w.batch b) m).after

  pub away : (b : ℕ) (m : Amounts) (x : ℕ) → has_base w b x ≡ false → after b m x ≡ m x
  away b = run_away (w.batch b) (right b)

  pub alike : (b : ℕ) (m n : Amounts) → ((x : ℕ) → has_base w b x ≡ true → m x ≡ n x) → (x : ℕ) → has_base w b x ≡ true → after b m x ≡ after b n x
  alike b = run_alike (w.batch b) (right b)

  commute : (a b : ℕ) → share w a b ≡ false → (m : Amounts) → after a (after b m) ≡ after b (after a m)
  commute a b f m = fun_ext (λ x. elim (cases_Bool (has_base w a x)) [
    | inl t ↦ in_a x t
    | inr n ↦ elim (cases_Bool (has_base w b x)) [ inl t ↦ in_b x n t | inr k ↦ in_none x n k ]
  ])
    where
      not-b : (x : ℕ) → has_base w a x ≡ true → has_base w b x ≡ false
      not-b x = apart_base (set_of w a) (set_of w b) x f

      not_a : (x : ℕ) → has_base w b x ≡ true → has_base w a x ≡ false
      not_a x = apart_base (set_of w b) (set_of w a) x (apart_sym w a b f)

      in_a : (x : ℕ) → has_base w a x ≡ true → after a (after b m) x ≡ after b (after a m) x
      in_a x t = alike a (after b m) m (λ y h. away b m y (not-b y h)) x t ∙ sym (away b (after a m) x (not-b x t))

      in_b : (x : ℕ) → has_base w a x ≡ false → has_base w b x ≡ true → after a (after b m) x ≡ after b (after a m) x
      in_b x n t = away a (after b m) x n ∙ alike b m (after a m) (λ y h. sym (away a m y (not_a y h))) x t

      in_none : (x : ℕ) → has_base w a x ≡ false → has_base w b x ≡ false → after a (after b m) x ≡ after b (after a m) x
      in_none x n k = away a (after b m) x n ∙ away b m x k ∙ sym (away b (after a m) x k ∙ away a m x n)

  to_last : (c : ℕ) (rest : List ℕ) → ((b : ℕ) → member b rest ≡ true → share w c b ≡ false) → (m : Amounts) → serial_run w (c ∷ rest) m ≡ after c (serial_run w rest m)
  to_last c [] h m = refl
  to_last c (q ∷ rest) h m = rw (commute q c (apart_sym w c q (h q (member-head q rest))) m) (to_last c rest (λ b e. h b (member-tail b q rest e)) (after q m))

  serial_append : (front rest : List ℕ) (m : Amounts) → serial_run w (front ++ rest) m ≡ serial_run w rest (serial_run w front m)
  serial_append [] rest m = refl
  serial_append (b ∷ front) rest m = serial_append front rest (after b m)

  pub late_last : (front : List ℕ) (c : ℕ) (rest : List ℕ) → ((b : ℕ) → member b rest ≡ true → share w c b ≡ false) →
      (m : Amounts) → serial_run w (front ++ c ∷ rest) m ≡ after c (serial_run w (front ++ rest) m)
  late_last front c rest h m = rw (serial_append front (c ∷ rest) m, serial_append front rest m) (to_last c rest h (serial_run w front m))

  module _ (m : Amounts) (I J : ℕ → Bool) where
    -- the claim at one list
    abbrev Agree : List ℕ → Type 0
    Agree H = Distinct H → Closed w I H → Closed w J H → (x : ℕ) → ((b : ℕ) → member b H ≡ true → has_base w b x ≡ true → I b ≡ J b) →
        serial_run w (keep I H) m x ≡ serial_run w (keep J H) m x

    closed-front : (K : ℕ → Bool) (H : List ℕ) (c : ℕ) → Closed w K (H ++ c ∷ []) → Closed w K H
    closed-front K H c h a b e = h a b (before-append a b H (c ∷ []) (before_members a b H e).1 ∙ e)

    serial_push : (K : ℕ → Bool) (H : List ℕ) (c x : ℕ) → serial_run w (keep K (H ++ c ∷ [])) m x ≡ cond (K c) (after c (serial_run w (keep K H) m) x) (serial_run w (keep K H) m x)
    serial_push K H c x = rw (keep_append K H (c ∷ []), serial_append (keep K H) (keep K (c ∷ [])) m) (elim (cases_Bool (K c)) [ inl t ↦ rw t | inr f ↦ rw f ])

    agree_more : (H : List ℕ) (c : ℕ) → Agree H → Agree (H ++ c ∷ [])
    agree_more H c ih nd ci cj x same = rw (serial_push I H c x, serial_push J H c x) (elim (cases_Bool (has_base w c x)) [ inl t ↦ has t | inr f ↦ lacks f ])
      where
        front : (y : ℕ) → ((b : ℕ) → member b H ≡ true → has_base w b y ≡ true → I b ≡ J b) → serial_run w (keep I H) m y ≡ serial_run w (keep J H) m y
        front = ih (distinct_front H c nd) (closed-front I H c ci) (closed-front J H c cj)

        on_x : serial_run w (keep I H) m x ≡ serial_run w (keep J H) m x
        on_x = front x (λ b e. same b (member-old b H c e))

        -- all before c that share a base with it are in both
        both : I c ≡ true → J c ≡ true → (y : ℕ) → has_base w c y ≡ true → serial_run w (keep I H) m y ≡ serial_run w (keep J H) m y
        both i j y hc = front y (λ b e hb.
            let bef : before (H ++ c ∷ []) b c ≡ true = before_last b c H (distinct_last H c nd) ∙ e in
            let sh = share_base w b c y hb hc in ci b c bef sh i ∙ sym (cj b c bef sh j))

        has : has_base w c x ≡ true → cond (I c) (after c (serial_run w (keep I H) m) x) (serial_run w (keep I H) m x) ≡ cond (J c) (after c (serial_run w (keep J H) m) x) (serial_run w (keep J H) m x)
        has t = let e : I c ≡ J c = same c (member-new H c) t in
            elim (cases_Bool (J c)) [ inl j ↦ rw (e, j) (alike c _ _ (both (e ∙ j) j) x t) | inr j ↦ rw (e, j) on_x ]

        lacks : has_base w c x ≡ false → cond (I c) (after c (serial_run w (keep I H) m) x) (serial_run w (keep I H) m x) ≡ cond (J c) (after c (serial_run w (keep J H) m) x) (serial_run w (keep J H) m x)
        lacks f = rw (away c (serial_run w (keep I H) m) x f, away c (serial_run w (keep J H) m) x f) (pick (I c) (J c) _ _ on_x)
          where
            pick : (i j : Bool) (u v : ℕ) → u ≡ v → cond i u u ≡ cond j v v
            pick i j u v e = grind arith

    pub choices_agree_lem : (H : List ℕ) → Agree H
    choices_agree_lem = snoc_ind Agree (λ _ _ _ x _. refl) agree_more

  -- one more chosen, whose later sharers are not
  one_at_head : (J : ℕ → Bool) (c : ℕ) (xs : List ℕ) → member c xs ≡ false → J c ≡ false → ((b : ℕ) → member b xs ≡ true → J b ≡ true → share w c b ≡ false) → (m : Amounts) →
      serial_run w (keep (λ a. J a || eqb a c) (c ∷ xs)) m ≡ after c (serial_run w (keep J (c ∷ xs)) m)
  one_at_head J c xs n f apart m =
      let rest : keep (λ a. J a || eqb a c) xs ≡ keep J xs = keep_same (λ a. J a || eqb a c) J xs (λ a h. grind arith) in
      let more : keep (λ a. J a || eqb a c) (c ∷ xs) ≡ c ∷ keep J xs = grind arith in
      let less : keep J (c ∷ xs) ≡ keep J xs = rw f in
      ap (λ l. serial_run w l m) more ∙ to_last c (keep J xs) (λ b h. let k = and_parts (J b) (member b xs) (sym (member-keep J b xs) ∙ h) in apart b k.1 k.0) m ∙
      ap (λ l. after c (serial_run w l m)) (sym less)

  before_head : (c b : ℕ) (xs : List ℕ) → member c xs ≡ false → member b xs ≡ true → before (c ∷ xs) c b ≡ true
  before_head c b xs f h = grind arith

  before-tail : (x c b : ℕ) (xs : List ℕ) → member x xs ≡ false → before xs c b ≡ true → before (x ∷ xs) c b ≡ true
  before-tail x c b xs f h = let m = before_members c b xs h in grind arith

  pub one_more : (J : ℕ → Bool) (c : ℕ) (H : List ℕ) → Distinct H → member c H ≡ true → J c ≡ false → ((b : ℕ) → before H c b ≡ true → J b ≡ true → share w c b ≡ false) → (m : Amounts) →
      serial_run w (keep (λ a. J a || eqb a c) H) m ≡ after c (serial_run w (keep J H) m)
  one_more J c [] nd h f apart m = absurd (both_ways false refl h)
  one_more J c (x ∷ xs) nd h f apart m =
      let ih = one_more J c xs nd.1 in
      elim (cases_eq c x) [
        | inl e ↦ rw (← e) (one_at_head J c xs (rw e nd.0) f (λ b hb. apart b (rw (← e) (before_head c b xs (rw e nd.0) hb))) m)
        | inr ne ↦
            let z : eqb x c ≡ false = grind arith in
            let hc : member c xs ≡ true = grind arith in
            let rest = ih hc f (λ b k. apart b (before-tail x c b xs nd.0 k)) in
            elim (cases_Bool (J x)) [ inl t ↦ rw t (rest (after x m)) | inr g ↦ rw (g, z) (rest m) ]
      ]
