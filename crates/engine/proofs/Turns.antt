-- One turn of a run, and its end.
use Rattle.std.proofs.Common.{◌≡◌, ℕ, ◌+◌, ◌<◌, ◌≤◌, List, ◌++◌, length, get_or, take, drop, set, sym, ◌∙◌, append_assoc, append-nil, arith, take-append-drop}
use Rattle.std.proofs.lemmas.List.{take_more_set, drop_more, drop-set-lt, drop_all}
use Rattle.entry.specs.declared.Entry.{Entry}
use Rattle.plan.specs.declared.slots.Window.{Window}
use Rattle.rules.specs.declared.figures.TrailLine.{TrailLine}
use Rattle.rules.specs.Checks.{State, Answer, answer}
use Rattle.rules.specs.Effects.{after}
use Rattle.rules.specs.Runs.{line_of, final, lines}

-- the turn at place i takes the day and the board from w to w'
module _ (hours : List Window) (w w' : State) (es : List Entry) (i : ℕ) (e : Entry) (within : i < length es) (moves : w' ≡ after hours w (get_or es i e)) where
  pub final_more : final hours w' (drop (i + 1) es) ≡ final hours w (drop i es)
  final_more = rw (moves, drop_more es i e within)

  pub lines_more :
      (trail : List TrailLine) (v : TrailLine) (r : Answer) → i < length trail → r ≡ answer hours w (get_or es i e) → v ≡ line_of r w'.day.quotation →
      take (i + 1) (set trail i v) ++ lines hours w' (drop (i + 1) es) ≡ take i trail ++ lines hours w (drop i es)
  lines_more trail v r room said put =
      rw (take_more_set trail i v room, append_assoc, put, said, moves, drop_more es i e within)

-- the lines past the turn's own are kept
pub rest_more :
    (trail first : List TrailLine) (v : TrailLine) (i : ℕ) → i < length trail → i < length first → drop i trail ≡ drop i first →
    drop (i + 1) (set trail i v) ≡ drop (i + 1) first
rest_more trail first v i h k same =
    let a = drop_more trail i v h in
    let b = drop_more first i v k in
    let d = drop-set-lt (i + 1) trail i v (omega arith) in
    cc

-- after the last turn
module _ (hours : List Window) (here start : State) (es : List Entry) (i : ℕ) (up : i ≤ length es) (down : length es ≤ i) where
  pub final_end : final hours here (drop i es) ≡ final hours start es → here ≡ final hours start es
  final_end same = let e = drop_all i es down in rw e at same

  pub trail_end :
      (trail first : List TrailLine) → take i trail ++ lines hours here (drop i es) ≡ lines hours start es → drop i trail ≡ drop i first →
      trail ≡ lines hours start es ++ drop (length es) first
  trail_end trail first front back =
      let e = drop_all i es down in
      let n : i ≡ length es = omega arith in
      let f : take i trail ≡ lines hours start es = sym (append-nil (take i trail)) ∙ (rw e at front) in
      sym (take-append-drop i trail) ∙ rw (f, back, n)
