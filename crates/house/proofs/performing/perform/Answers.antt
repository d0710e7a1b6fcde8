use Rattle.std.proofs.Common.{◌≡◌, map, vec_items, sym, refl, ap, ◌∙◌}
use Rattle.plan.specs.Plans.{plan_of}
use Rattle.wire.specs.Wire.{Wire, new_wire}
use Rattle.house.specs.Openings.{open_reason}
use Rattle.house.proofs.Performed.{promised}
use Rattle.house.proofs.performing.perform.Goals as goal

pub returns-in-Ok-open : goal.returns-in-Ok-open
returns-in-Ok-open g c =
    let opened = c.in-Ok-open.ensures.cases in
    let fresh : g.W.Wire.meaning c.in-Ok.wire ≡ new_wire = c.in-Ok.ensures.wire in
    record {
      cases = record {
        taken = ap (λ (w : Wire). open_reason (plan_of c.args.plan) w (map g.B.Book.holds (vec_items c.args.books))) (sym fresh) ∙ opened.taken;
        promised = promised _ _ _ _ _ (opened.held fresh) c.make_all.ensures.after;
      };
    }

pub returns-in-Err : goal.returns-in-Err
returns-in-Err g c =
    let back = c.in-Err.ensures.cases in
    let fresh : g.W.Wire.meaning c.in-Ok.wire ≡ new_wire = c.in-Ok.ensures.wire in
    record {
      cases = record {
        why = ap (λ (w : Wire). open_reason (plan_of c.args.plan) w (map g.B.Book.holds (vec_items c.args.books))) (sym fresh) ∙ back.why;
        plan_is = back.plan_is;
        books_are = back.books_are;
        calls_are = refl;
      };
    }

pub returns-in_default : goal.returns-in_default
returns-in_default g c = record { cases = record { why = tt; plan_is = refl; books_are = refl; calls_are = refl } }
