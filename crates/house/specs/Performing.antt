-- A list of calls made on a house, and performed on a house of its own.
use Rattle.std.specs.Prelude.{◌≡◌, List, ◌++◌, map, length, Some, None, Ok, Err, vec_items, Result, Vec}
use Rattle.std.specs.declared.alloc.Global.{Global}
use Rattle.stock.specs.Stock.{Stock}
use Rattle.plan.specs.Plan.{Plan}
use Rattle.plan.specs.Plans.{plan_of}
use Rattle.plan.specs.declared.sealed.SealedPlan.{SealedPlan}
use Rattle.wire.specs.Wire.{Wire, new_wire}
use Rattle.agreement.specs.Houses.{Given}
use Rattle.agreement.specs.Calls.{Call, Answer, Performed}
use Rattle.agreement.specs.Promises.{Promise}
use Rattle.house.specs.declared.call.Call.{Call as CodeCall}
use Rattle.house.specs.declared.call.Answer.{Answer as CodeAnswer}
use Rattle.house.specs.declared.performance.Performance.{Performance}
use Rattle.house.specs.declared.performance.Unperformed.{Unperformed}
use Rattle.house.specs.declared.performance.WhyUnperformed.{WhyUnperformed}
use Rattle.house.specs.declared.performance.WhyUnperformed.TheVariants.{NoMemory, Unopened}
use Rattle.house.specs.Views.{Parts, parts_of, view, Held}
use Rattle.house.specs.Listing.{listed}
use Rattle.house.specs.Openings.{given_of, open_reason}

-- every call of the list was made and answered, in order
pub record MakesAll (p : Parts) (calls : List CodeCall) (answers : List CodeAnswer) (q : Parts) : Type 0 where
  pub count : length answers ≡ length calls
  pub held : (g : Given) (before : List (Call × Answer)) → Held g before p → Held g (before ++ listed calls answers) q

-- The promise whole, of what is given a house and the calls that it then had: there are as many answers as calls, these calls with
-- these answers were performed as they are defined, and the house after them keeps all that is promised.
pub record Promised (g : Given) (calls : List CodeCall) (answers : List CodeAnswer) (p : Parts) : Type 0 where
  pub count : length answers ≡ length calls
  pub plan : p.plan ≡ g.plan
  pub performed : Performed g (listed calls answers) (view g p)
  pub promise : Promise g (listed calls answers) (view g p)

-- why nothing was performed: for want of memory, which may come at any time, or because no house is opened with these
abbrev pub WhyNot : Plan → List Stock → WhyUnperformed → Type 0
WhyNot plan books NoMemory = Unit {0}
WhyNot plan books (Unopened why) = open_reason plan new_wire books ≡ Some why

module _ {W B : Type 0} (meaning : W → Wire) (holds : B → Stock) (plan : SealedPlan) (books : Vec B Global) (calls : Vec CodeCall Global) where
  -- a house is opened with these, and keeps the promise
  pub record Performs (p : Performance W B) : Type 0 where
    pub taken : open_reason (plan_of plan) new_wire (map holds (vec_items books)) ≡ None
    pub promised : Promised (given_of (plan_of plan) (map holds (vec_items books))) (vec_items calls) (vec_items p.answers) (parts_of meaning holds p.house)

  -- nothing was performed, and all comes back as it was
  pub record HandedBack (e : Unperformed B) : Type 0 where
    pub why : WhyNot (plan_of plan) (map holds (vec_items books)) e.why
    pub plan_is : e.plan ≡ plan
    pub books_are : e.books ≡ books
    pub calls_are : e.calls ≡ calls

  abbrev pub Performing : Result (Performance W B) (Unperformed B) → Type 0
  Performing (Ok p) = Performs p
  Performing (Err e) = HandedBack e
