-- All maximal runs from a quiet world have one length and one end.
use Rattle.std.proofs.Common.{◌≡◌, ◌≢◌, ◌⊎◌, suc, ◌+◌, List, [], ◌∷◌, ◌++◌, length, refl, sym, ap, ◌∙◌, subst, inl}
use Rattle.std.proofs.Common.{inr, arith}
use Rattle.std.proofs.lemmas.Bool.{cases_eq}
use Rattle.work_items.specs.Items.{Machine, World, Move, Step, Release, IsPossible, moved}
use Rattle.work_items.specs.Runs.{world_after, IsRun, IsOver, IsMaximal, turns}
use Rattle.work_items.proofs.Diamond.{IsQuiet, quiet_after, still_possible, swap_moves}

same_move : (m n : Move) → (m ≡ n) ⊎ (m ≢ n)
same_move (Step i) (Step j) =
    elim (cases_eq i j) [ inl e ↦ inl (ap Step e) | inr ne ↦ inr (λ e. let f : i ≡ j = cc e in ne f) ]
same_move (Release g) (Release h) =
    elim (cases_eq g h) [ inl e ↦ inl (ap Release e) | inr ne ↦ inr (λ e. let f : g ≡ h = cc e in ne f) ]
same_move (Step i) (Release g) = inr (λ e. cc e)
same_move (Release g) (Step i) = inr (λ e. cc e)

-- a maximal run that begins with another move, and has the length and the end of a given one
record Begun {S P : Type 0} (machine : Machine S P) (world : World S) (move : Move) (moves : List Move) : Type 0 where
  rest : List Move
  maximal : IsMaximal machine (moved machine world move) rest
  longer : length moves ≡ suc (length rest)
  same_end : world_after machine (moved machine world move) rest ≡ world_after machine world moves

module _ {S P : Type 0} (machine : Machine S P) where
  begin_with : (world : World S) (moves : List Move) (move : Move) → IsQuiet machine world →
      IsPossible machine world move → IsMaximal machine world moves → Begun machine world move moves
  begin_with world [] move q p m = absurd (m.over move p)
  begin_with world (first ∷ moves) move q p m =
      by_case (same_move move first) (λ still. begin_with (moved machine world first) moves move
      (quiet_after machine world first q m.run.0) still tail)
    where
      tail : IsMaximal machine (moved machine world first) moves
      tail = record { run = m.run.1; over = m.over }

      by_case : (move ≡ first) ⊎ (move ≢ first) → (IsPossible machine (moved machine world first) move →
          Begun machine (moved machine world first) move moves) → Begun machine world move (first ∷ moves)
      by_case (inl e) go = subst (λ k. Begun machine world k (first ∷ moves)) (sym e) (record {
        rest = moves;
        maximal = tail;
        longer = refl;
        same_end = refl;
      })
      by_case (inr ne) go =
          let back : first ≢ move = λ e. ne (sym e) in
          let further = go (still_possible machine world first move q back m.run.0 p) in
          let swapped = swap_moves machine world move first q ne p m.run.0 in
          record {
            rest = first ∷ further.rest;
            maximal = record {
              run = (
                still_possible machine world move first q ne p m.run.0,
                subst (λ w. IsRun machine w further.rest) (sym swapped) further.maximal.run,
              );
              over =
                  subst (λ w. IsOver machine (world_after machine w further.rest)) (sym swapped) further.maximal.over;
            };
            longer = ap suc further.longer;
            same_end = ap (λ w. world_after machine w further.rest) swapped ∙ further.same_end;
          }

  -- two maximal runs have one length and one end
  pub one_end : (world : World S) (moves others : List Move) → IsQuiet machine world → IsMaximal machine world moves →
      IsMaximal machine world others → (length moves ≡ length others) ×
      (world_after machine world moves ≡ world_after machine world others)
  one_end world [] [] q m o = (refl, refl)
  one_end world [] (other ∷ others) q m o = absurd (m.over other o.run.0)
  one_end world (move ∷ moves) others q m o =
      let begun = begin_with world others move q m.run.0 o in
      let rest = one_end (moved machine world move) moves begun.rest (quiet_after machine world move q m.run.0)
      (record { run = m.run.1; over = m.over }) begun.maximal in
      (ap suc rest.0 ∙ sym begun.longer, rest.1 ∙ begun.same_end)

  -- where one maximal run is known, each run goes on to the same end
  pub goes_on : (world : World S) (moves others : List Move) → IsQuiet machine world → IsRun machine world moves →
      IsMaximal machine world others → (more : List Move) × IsMaximal machine (world_after machine world moves) more ×
      (world_after machine (world_after machine world moves) more ≡ world_after machine world others) ×
      (length moves + length more ≡ length others)
  goes_on world [] others q r o = (others, o, refl, omega arith)
  goes_on world (move ∷ moves) others q r o =
      let begun = begin_with world others move q r.0 o in
      let rest = goes_on (moved machine world move) moves begun.rest (quiet_after machine world move q r.0) r.1
      begun.maximal in
      (rest.0, rest.1, rest.2 ∙ begun.same_end, omega (arith, rest.3, begun.longer))

  -- a run and what follows it
  pub IsRun-append : (world : World S) (moves more : List Move) → IsRun machine world moves →
      IsRun machine (world_after machine world moves) more → IsRun machine world (moves ++ more)
  IsRun-append world [] more r s = s
  IsRun-append world (move ∷ moves) more r s = (r.0, IsRun-append (moved machine world move) moves more r.1 s)

  pub world_after-append : (world : World S) (moves more : List Move) →
      world_after machine world (moves ++ more) ≡ world_after machine (world_after machine world moves) more
  world_after-append world [] more = refl
  world_after-append world (move ∷ moves) more = world_after-append (moved machine world move) moves more

  pub turns-append : (world : World S) (moves more : List Move) →
      turns machine world (moves ++ more) ≡ turns machine world moves +
      turns machine (world_after machine world moves) more
  turns-append world [] more = omega arith
  turns-append world (move ∷ moves) more = let rest = turns-append (moved machine world move) moves more in omega arith
