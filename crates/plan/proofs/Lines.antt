-- Lines of a plan: a line taken at the end keeps the plan right, and the masters are those of the lines.
-- Both by induction over the lines; a set that no earlier line has changes no earlier answer.
use Rattle.std.proofs.Common.{◌≡◌, ℕ, zero, suc, ◌<◌, ◌≤◌, true, false, ◌||◌, ◌==◌, List, [], ◌∷◌, ◌++◌, length, get_or, Some, None, option_map, find, refl, arith, length-append}
use Rattle.std.proofs.lemmas.Bool.Decides.{nat_tests}
use Rattle.lists.specs.Words.{all}
use Rattle.lists.proofs.Members.{all_append}
use Rattle.plan.specs.declared.line.PlanLine.{PlanLine}
use Rattle.plan.specs.Plan.{Plan, master_in, planned, plan_right, line_right, each_once, line_cause}
use Rattle.plan.specs.Laws.{Follows}

-- a set's master is that of the first line that has the set
pub master_in_first : (ls : List PlanLine) (set : ℕ) → master_in ls set ≡ option_map (λ l. l.master) (find (λ l. l.set == set) ls)
master_in_first [] set = refl
master_in_first (l ∷ ls) set = grind (arith, nat_tests, master_in_first ls set)

-- a set is planned after a line is taken if it was, or is that line's
planned-push : (ls : List PlanLine) (l : PlanLine) (set : ℕ) → planned (ls ++ l ∷ []) set ≡ (planned ls set || l.set == set)
planned-push [] l set = grind (arith, nat_tests)
planned-push (x ∷ ls) l set = grind (arith, nat_tests, planned-push ls l set)

-- a line of a new set leaves no set in two lines
once-push : (ls : List PlanLine) (l : PlanLine) → each_once ls ≡ true → planned ls l.set ≡ false → each_once (ls ++ l ∷ []) ≡ true
once-push [] l h k = refl
once-push (x ∷ ls) l h k = grind (arith, nat_tests, planned-push ls l x.set, once-push ls l)

-- a line with no cause for a refusal, put at the end, keeps what a plan keeps
module _ (rooms set master : ℕ) (old new : List PlanLine) (put : new ≡ old ++ (record { set = set; master = master }) ∷ []) (none : None ≡ line_cause (record { rooms = rooms; lines = old }) set master) where
  pub few_put : length new ≤ 32
  few_put = grind (arith, nat_tests, length-append)

  pub right_put : plan_right (record { rooms = rooms; lines = old }) ≡ true → plan_right (record { rooms = rooms; lines = new }) ≡ true
  right_put h = grind (arith, nat_tests, all_append (line_right rooms) old (record { set = set; master = master } ∷ []))

  pub once_put : each_once old ≡ true → each_once new ≡ true
  once_put h = grind (arith, nat_tests, once-push old (record { set = set; master = master }))

-- what a plan keeps, with such a line at the end
pub ruleset line_put = (few_put, right_put, once_put)

-- where no set stands twice, the answers follow the lines

there : (ls : List PlanLine) → each_once ls ≡ true → (i : ℕ) (l : PlanLine) → i < length ls → master_in ls (get_or ls i l).set ≡ Some (get_or ls i l).master
there [] h i l k = absurd (omega arith)
there (x ∷ ls) h zero l k = grind (arith, nat_tests)
there (x ∷ ls) h (suc i) l k = grind (arith, nat_tests, there ls)

once : (ls : List PlanLine) → each_once ls ≡ true → (i j : ℕ) (l : PlanLine) → i < length ls → j < length ls → (get_or ls i l).set ≡ (get_or ls j l).set → i ≡ j
once [] h i j l a b e = absurd (omega arith)
once (x ∷ ls) h zero zero l a b e = refl
once (x ∷ ls) h zero (suc j) l a b e = grind (arith, nat_tests, there ls)
once (x ∷ ls) h (suc i) zero l a b e = grind (arith, nat_tests, there ls)
once (x ∷ ls) h (suc i) (suc j) l a b e = grind (arith, nat_tests, once ls)

missing : (ls : List PlanLine) (s : ℕ) → ((i : ℕ) (l : PlanLine) → i < length ls → (get_or ls i l).set ≡ s → ⊥) → master_in ls s ≡ None
missing [] s none = refl
missing (x ∷ ls) s none = grind (arith, nat_tests, none 0 x, missing ls s (λ i l h. none (suc i) l (omega arith)))

room : (rooms : ℕ) (ls : List PlanLine) → all (line_right rooms) ls ≡ true → (s m : ℕ) → master_in ls s ≡ Some m → m < rooms
room rooms [] h s m e = cc
room rooms (x ∷ ls) h s m e = grind (arith, nat_tests, room rooms ls)

pub follows : (p : Plan) → plan_right p ≡ true → each_once p.lines ≡ true → Follows p
follows p r h = record { once = once p.lines h; there = there p.lines h; missing = missing p.lines; room = room p.rooms p.lines (grind (arith, nat_tests)) }
