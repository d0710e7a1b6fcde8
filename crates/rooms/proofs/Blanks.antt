-- A table of blank records: every batch has a blank one, those past the table too.
use Rattle.std.proofs.Common.{◌≡◌, ℕ, zero, suc, ◌≤◌, true, ◌&&◌, leb, List, [], get_or, replicate, None, refl, ap, ◌∙◌}
use mathlib.Core.Path.{fun_ext}
use Rattle.std.proofs.lemmas.Bool.{and_parts, leb-true}
use Rattle.lists.specs.Words.{all}
use Rattle.plan.specs.Plan.{Plan, plan_right, line_right}
use Rattle.agreement.specs.Rooms.{Room, new_room}
use Rattle.rooms.specs.declared.record.Record.{Record}
use Rattle.rooms.specs.Records.{blank}

all_same : {X : Type 0} (n : ℕ) (x : X) (k : ℕ) → get_or (replicate n x) k x ≡ x
all_same zero x k = refl
all_same (suc n) x zero = refl
all_same (suc n) x (suc k) = all_same n x k

pub blank_at : (records : List Record) → records ≡ replicate 256 blank → (b : ℕ) → get_or records b blank ≡ blank
blank_at records e b = ap (λ (l : List Record). get_or l b blank) e ∙ all_same 256 blank b

-- empty lists and blank records are a new room
pub new_is : (waiting settled installed : List ℕ) (records : List Record) → waiting ≡ [] → settled ≡ [] → installed ≡ [] → records ≡ replicate 256 blank →
    ◌≡◌ {A = Room} (record { waiting = waiting; settled = settled; installed = installed; mark = (λ b. (get_or records b blank).mark); serializer = (λ b. (get_or records b blank).serializer) }) new_room
new_is waiting settled installed records ew es ei er =
    let marks : (λ (b : ℕ). (get_or records b blank).mark) ≡ (λ (_ : ℕ). None) = fun_ext (λ b. ap (λ (r : Record). r.mark) (blank_at records er b)) in
    let names : (λ (b : ℕ). (get_or records b blank).serializer) ≡ (λ (_ : ℕ). 0) = fun_ext (λ b. ap (λ (r : Record). r.serializer) (blank_at records er b)) in
    λ i. record { waiting = ew i; settled = es i; installed = ei i; mark = marks i; serializer = names i }

-- a plan has at most eight rooms
pub rooms-eight : (p : Plan) → plan_right p ≡ true → p.rooms ≤ 8
rooms-eight p h = leb-true p.rooms 8 (and_parts (leb 1 p.rooms) (leb p.rooms 8) (and_parts (leb 1 p.rooms && leb p.rooms 8) (all (line_right p.rooms) p.lines) h).0).1
