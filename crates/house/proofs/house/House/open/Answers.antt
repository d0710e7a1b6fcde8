use Rattle.std.proofs.Common.{◌≡◌, List, map, None, vec_items, sym, refl, ap, ◌∙◌}
use lib.ListN.{length-map}
use Rattle.plan.specs.Plans.{plan_of}
use Rattle.house.specs.Openings.{open_reason}
use Rattle.house.proofs.Opened.{books-count, opens_held, all_sound}
use Rattle.house.proofs.house.House.open.Goals as goal

pub invariant_of-result : goal.invariant_of-result
invariant_of-result g c =
    let slice = c.as_slice.ensures.value in
    let none : open_reason (plan_of c.args.plan) (g.W.Wire.meaning c.args.wire) (map g.B.Book.holds (vec_items c.args.books)) ≡ None =
    ap (λ (l : List g.row.B.Denot). open_reason (plan_of c.args.plan) (g.W.Wire.meaning c.args.wire) (map g.B.Book.holds l)) (sym slice) ∙ sym c.in_default.ensures.refused in
    record {
      roomed = c.open_rooms-rooms.ensures.len;
      numbered = c.open_rooms-rooms.ensures.numbered;
      booked = c.args.books.ok.0 ∙ sym (length-map (vec_items c.args.books) g.B.Book.holds) ∙ books-count (plan_of c.args.plan) (g.W.Wire.meaning c.args.wire) (map g.B.Book.holds (vec_items c.args.books)) none;
    }

pub returns : goal.returns
returns g c =
    let slice = c.as_slice.ensures.value in
    let none : open_reason (plan_of c.args.plan) (g.W.Wire.meaning c.args.wire) (map g.B.Book.holds (vec_items c.args.books)) ≡ None =
    ap (λ (l : List g.row.B.Denot). open_reason (plan_of c.args.plan) (g.W.Wire.meaning c.args.wire) (map g.B.Book.holds l)) (sym slice) ∙ sym c.in_default.ensures.refused in
    record {
      cases = record {
        taken = none;
        plan_is = refl;
        wire_is = refl;
        books_are = refl;
        rooms-new = c.open_rooms-rooms.ensures.new;
        held = opens_held (plan_of c.args.plan) (g.W.Wire.meaning c.args.wire) (map g.B.Book.holds (vec_items c.args.books)) none c.args.plan.right (all_sound g.B.Book.holds g.met.B.Book.sound (vec_items c.args.books)) _ c.open_rooms-rooms.ensures.new;
      };
    }
