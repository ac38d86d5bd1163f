-- The lines of a schedule, as they are kept and as they are read.
use Rattle.std.proofs.Common.{◌≡◌, ℕ, ◌+◌, ◌<◌, ◌≤◌, List, [], ◌∷◌, ◌++◌, map, length, get_or, Option, unwrap_or, slice_get, refl, sym, ap, ◌∙◌, arith, length-append}
use mathlib.Core.Option.{some, none}
use Rattle.std.specs.Option.{option_map}
use Rattle.std.proofs.lemmas.Option.{slice_get-map, unwrap_or-slice_get}
use Rattle.std.proofs.lemmas.List.{map-append, get_or_append_left}
use Rattle.std.proofs.Math.Seq.{get_or-append_seam}
use Rattle.basics.specs.Count.{count}
use Rattle.basics.specs.Lists.{All}
use Rattle.basics.proofs.Lists.{count_yes, count_no, all_append, all-imp}
use Rattle.lines.specs.Place.{found, line_at}
use Rattle.lines.proofs.LineTrip.{line-range}
use Rattle.lines.proofs.Prefix.{unbroken}
use Rattle.text.specs.Formats.{turn_line}
use Rattle.text.specs.Schedule.{is_arrive}
use Rattle.text.specs.Held.{arrival_of, no_arrival, move_from, moves_in, no_move}
use Rattle.text.specs.Steps.{schedule_adds, PlaceBelow, ScheduleKept}
use Rattle.text.specs.declared.schedule.Arrival.{Arrival}
use Rattle.text.specs.declared.schedule.Kept.{Kept}
use Rattle.text.specs.declared.schedule.Kept.TheVariants.{Turn as TurnOf, Arrival as ArrivalAt}
use Rattle.text.specs.declared.schedule.Move.TheVariants.{Turn}
use Rattle.text.specs.declared.schedule.Schedule.{Schedule}
use Rattle.text.specs.declared.schedule.ScheduleLine.TheVariants.{Arrive as Arrived, Turn as Turned}
use Rattle.text.proofs.LineKinds.{found-line}
use Rattle.text.proofs.ReadLines.{within-yes, within-no}
use Rattle.text.proofs.Ranges.{range_at}

-- a turn's rid takes two bytes
pub turn-fits : (s : List ℕ) (at : ℕ) (vs : List ℕ) (e : ℕ) → found vs e ≡ line_at turn_line s at → get_or vs 0 0 < 65536
unfolding unbroken
turn-fits s at vs e h =
    let r : get_or vs 0 0 ≤ 65535 =
    range_at turn_line.largest vs 0 (line-range turn_line _ vs (found-line turn_line refl s at vs e h)) (omega arith) in
    omega arith

-- line i, by the line that is kept for it
pub kept-at : (x : Schedule) (i : ℕ) (o : Option Kept) → o ≡ slice_get x.lines.items i →
    slice_get (moves_in x) i ≡ option_map (move_from x.arrivals.items) o
unfolding moves_in
kept-at x i o e = slice_get-map (move_from x.arrivals.items) x.lines.items i ∙ ap (option_map (move_from x.arrivals.items)) (sym e)

-- and past the last
pub move-kept : (x : Schedule) (i : ℕ) (o : Option Kept) → o ≡ slice_get x.lines.items i →
    get_or (moves_in x) i no_move ≡ unwrap_or (option_map (move_from x.arrivals.items) o) no_move
move-kept x i o e = sym (unwrap_or-slice_get (moves_in x) i no_move) ∙ ap (λ o. unwrap_or o no_move) (kept-at x i o e)

-- ── one line more ──

-- a schedule that holds nothing
pub no-moves : (x : Schedule) → x.lines.items ≡ [] → x.arrivals.items ≡ [] → (moves_in x ≡ []) × ScheduleKept x 0
unfolding moves_in
no-moves x l a =
    rw (l, a) (
      refl,
      record {
        comes = refl;
        places = tt;
        bytes = omega arith;
      },
    )

-- a kept line stands for the same move when an arrival more is there
same-move : (others : List Arrival) (x : Arrival) (k : Kept) → PlaceBelow (length others) k → move_from (others ++ x ∷ []) k ≡ move_from others k
same-move others x (TurnOf rid) h = refl
same-move others x (ArrivalAt i) h = ap arrival_of (get_or_append_left others (x ∷ []) no_arrival i h)

same-moves : (others : List Arrival) (x : Arrival) (ls : List Kept) → All (PlaceBelow (length others)) ls →
    map (move_from (others ++ x ∷ [])) ls ≡ map (move_from others) ls
same-moves others x [] h = refl
same-moves others x (l ∷ ls) h = let p = same-move others x l h.0 in let q = same-moves others x ls h.1 in λ i. p i ∷ q i

further : (n m : ℕ) → n ≤ m → (k : Kept) → PlaceBelow n k → PlaceBelow m k
further n m h (TurnOf rid) p = tt
further n m h (ArrivalAt i) p = omega arith

pub lines-room : (x : Schedule) (at end : ℕ) → ScheduleKept x at → at + 7 ≤ end → end ≤ 65535 → length x.lines.items < 9362
lines-room x at end h more short = omega (arith, h.bytes)

module _ (x y : Schedule) (at end : ℕ) (h : ScheduleKept x at) (more : at + 7 ≤ end) (short : end ≤ 65535) where
  -- a turn joins
  module _ (rid : ℕ) (l : y.lines.items ≡ x.lines.items ++ TurnOf rid ∷ []) (a : y.arrivals ≡ x.arrivals) where
    turn-moves : moves_in y ≡ moves_in x ++ Turn rid ∷ []
    unfolding moves_in
    turn-moves = rw (l, a) (map-append (move_from x.arrivals.items) x.lines.items (TurnOf rid ∷ []))

    pub turn-joins : (schedule_adds (Turned rid) (moves_in x) ≡ some (moves_in y)) × ScheduleKept y end
    turn-joins = (
      ap some (sym turn-moves),
      record {
        comes = ap (count is_arrive) turn-moves ∙ count_no is_arrive (moves_in x) (Turn rid) refl ∙ h.comes
            ∙ ap (λ a. length a.items) (sym a);
        places = rw (l, a) (all_append (PlaceBelow (length x.arrivals.items)) x.lines.items (TurnOf rid ∷ []) h.places (tt, tt));
        bytes = omega (arith, h.bytes, ap length l, length-append x.lines.items (TurnOf rid ∷ []));
      },
    )

  -- an arrival joins, or is one too many
  module _ (q : Arrival) where
    pub arrive-full : 64 ≤ length x.arrivals.items → schedule_adds (Arrived q) (moves_in x) ≡ none
    arrive-full g = within-no (count is_arrive (moves_in x)) 64 _ (omega (arith, h.comes))

    module _ (few : length x.arrivals.items < 64) (l : y.lines.items ≡ x.lines.items ++ ArrivalAt (length x.arrivals.items) ∷ [])
        (a : y.arrivals.items ≡ x.arrivals.items ++ q ∷ []) where
      abbrev places : ℕ
      places = length x.arrivals.items

      arrive-moves : moves_in y ≡ moves_in x ++ arrival_of q ∷ []
      unfolding moves_in
      arrive-moves =
          let others = x.arrivals.items in
          let s = same-moves others q x.lines.items h.places in
          let n = ap arrival_of (get_or-append_seam others q [] no_arrival) in
          rw (l, a) (map-append (move_from (others ++ q ∷ [])) x.lines.items (ArrivalAt places ∷ []) ∙ (λ i. s i ++ n i ∷ []))

      room : length y.arrivals.items ≡ places + 1
      room = ap length a ∙ length-append x.arrivals.items (q ∷ [])

      pub arrive-joins : (schedule_adds (Arrived q) (moves_in x) ≡ some (moves_in y)) × ScheduleKept y end
      arrive-joins = (
        within-yes (count is_arrive (moves_in x)) 64 _ (omega (arith, h.comes)) ∙ ap some (sym arrive-moves),
        record {
          comes = omega (arith, ap (count is_arrive) arrive-moves, count_yes is_arrive (moves_in x) (arrival_of q) refl, h.comes, room);
          places = rw (l, room) (all_append (PlaceBelow (places + 1)) x.lines.items (ArrivalAt places ∷ [])
              (all-imp (PlaceBelow places) (PlaceBelow (places + 1)) (further places (places + 1) (omega arith)) x.lines.items h.places)
              (omega arith, tt));
          bytes = omega (arith, h.bytes, ap length l, length-append x.lines.items (ArrivalAt places ∷ []));
        },
      )
