-- An item of a kernel in which no branch is chosen by a constant goes with the same item of the given one.
use Rattle.std.proofs.Common.{◌≡◌, ℕ, suc, ℤ, pos, List, [], ◌∷◌, refl, sym, ap, ap₂, ◌∙◌, subst, true, false}
use Rattle.std.proofs.Common.{if◌then◌else◌}
use Rattle.std.proofs.Common.{Bool as Test}
use Rattle.std.proofs.lemmas.Bool.{and_parts}
use Rattle.work_items.specs.Items.{Goes, Begins}
use Rattle.work_items.specs.Simulation.{GoesIn, SameLabel, both_end, both_wait, both_go, both_begin, both_load}
use Rattle.work_items.specs.Simulation.{both_store}
use Rattle.cl_model.specs.Sizes.{Launch}
use Rattle.cl_model.specs.Values.{is_zero}
use Rattle.kir.specs.declared.line.Atom.{Atom}
use Rattle.kir.specs.Tree.{Lines, NoLine, SetThen, LoadThen, StoreThen, ClearThen, IfThen, LoopThen, BarrierThen}
use Rattle.kir.specs.Tree.{joined_to, Kernel}
use Rattle.kir.specs.Places.{Leg, Behind, IntoChosen, IntoOther, IntoTest, ToAnswer, IntoBody, Place, Tasks, NoTask}
use Rattle.kir.specs.Places.{LinesAt, AnswerAt, iteration, lines_at, behind, chosen_of, other_of, test_of, body_of}
use Rattle.kir.specs.Steps.{Item, with_tasks, with_cell, atom_value, branched}
use Rattle.kir.specs.Steps.{line_next, tasks_next, item_next}
use Rattle.kir_simplify.specs.Simple.{is_constant, is_decided}
use Rattle.kir_simplify.specs.Passes.{constant_value, spliced, spliced_of}
use Rattle.kir_simplify.proofs.FoldedItems.{constant_holds, value_at}
use Rattle.kir_simplify.proofs.SplicedPlaces.{join_assoc, Bit, bit, Spot, skip, IsKept, kept_skip}
use Rattle.kir_simplify.proofs.SplicedPlaces.{into_skip, Mark, Own, More, head_lines, rest_tasks, spliced_tasks, bits}
use Rattle.kir_simplify.proofs.SplicedPlaces.{moved_to}

module _ (kernel : Kernel) where
  abbrev pub onto : Leg → Spot → Spot
  onto Behind s = skip (Behind ∷ s.at) (behind s.lines) s.rest
  onto IntoChosen s = skip (IntoChosen ∷ s.at) (chosen_of s.lines) []
  onto IntoOther s = skip (IntoOther ∷ s.at) (other_of s.lines) []
  onto IntoTest s = skip (IntoTest ∷ s.at) (test_of s.lines) []
  onto ToAnswer s = skip (ToAnswer ∷ s.at) NoLine []
  onto IntoBody s = skip (IntoBody ∷ s.at) (body_of s.lines) []

  abbrev pub placed : Place → Spot
  placed [] = skip [] kernel.body []
  placed (leg ∷ p) = onto leg (placed p)

  abbrev pub front : Place → Place
  front [] = []
  front (leg ∷ p) = leg ∷ (placed p).at

  pub record IsThere (p at : Place) (lines : Lines) (bs : List Bit) : Type 0 where
    pub place : placed p ≡ skip at lines bs
    pub is : lines ≡ lines_at kernel.body at

  pub record IsUnderWay (p at : Place) (test : Lines) (answer : Atom) (body : Lines) : Type 0 where
    pub there : (placed p).at ≡ at
    pub test_there : test_of (placed p).lines ≡ test
    pub body_there : body_of (placed p).lines ≡ body
    pub test_is : test ≡ lines_at kernel.body (IntoTest ∷ at)
    pub body_is : body ≡ lines_at kernel.body (IntoBody ∷ at)

  abbrev mutual
    pub AreFine : Tasks → List Mark → Type 0
    AreFine NoTask es = Unit {0}
    AreFine (LinesAt at lines k) [] = ⊥
    AreFine (LinesAt at lines k) (Own p ∷ es) = IsThere p at lines [] × AreFine k es
    AreFine (LinesAt at lines k) (More p ∷ es) = IsThere p at lines (bits k es) × AreJoined k es
    AreFine (AnswerAt at test answer body n k) [] = ⊥
    AreFine (AnswerAt at test answer body n k) (Own p ∷ es) = IsUnderWay p at test answer body × AreFine k es
    AreFine (AnswerAt at test answer body n k) (More p ∷ es) = ⊥

    pub AreJoined : Tasks → List Mark → Type 0
    AreJoined NoTask es = ⊥
    AreJoined (LinesAt at lines k) [] = ⊥
    AreJoined (LinesAt at lines k) (Own p ∷ es) = (lines ≡ lines_at kernel.body at) × AreFine k es
    AreJoined (LinesAt at lines k) (More p ∷ es) = (lines ≡ lines_at kernel.body at) × AreJoined k es
    AreJoined (AnswerAt at test answer body n k) es = ⊥

  abbrev mutual
    pub AreFronts : Tasks → List Mark → Type 0
    AreFronts NoTask es = Unit {0}
    AreFronts (LinesAt at lines k) [] = ⊥
    AreFronts (LinesAt at lines k) (Own p ∷ es) = (at ≡ front p) × AreFronts k es
    AreFronts (LinesAt at lines k) (More p ∷ es) = (at ≡ front p) × RestFronts k es
    AreFronts (AnswerAt at test answer body n k) [] = ⊥
    AreFronts (AnswerAt at test answer body n k) (Own p ∷ es) = AreFronts k es
    AreFronts (AnswerAt at test answer body n k) (More p ∷ es) = ⊥

    pub RestFronts : Tasks → List Mark → Type 0
    RestFronts NoTask es = Unit {0}
    RestFronts (LinesAt at lines k) [] = ⊥
    RestFronts (LinesAt at lines k) (Own p ∷ es) = AreFronts k es
    RestFronts (LinesAt at lines k) (More p ∷ es) = RestFronts k es
    RestFronts (AnswerAt at test answer body n k) [] = ⊥
    RestFronts (AnswerAt at test answer body n k) (Own p ∷ es) = AreFronts k es
    RestFronts (AnswerAt at test answer body n k) (More p ∷ es) = ⊥

  -- the first line is kept
  abbrev pub IsReady : Tasks → List Mark → Type 0
  IsReady (LinesAt at lines k) (Own p ∷ es) = IsKept lines []
  IsReady (LinesAt at lines k) (More p ∷ es) = IsKept lines (bits k es)
  IsReady _ es = Unit {0}

  pub record Beside (i' i : Item) : Type 0 where
    pub marks : List Mark
    pub same : i' ≡ with_tasks i (spliced_tasks i.tasks marks)
    pub fine : AreFine i.tasks marks

  pub record Fronted (i' i : Item) : Type 0 where
    pub beside : Beside i' i
    pub fronts : AreFronts i.tasks beside.marks

  -- ---- a leg further

  pub behind_on : (p at : Place) (lines : Lines) (bs : List Bit) → IsThere p at lines bs → IsKept lines bs →
      IsThere (Behind ∷ p) (Behind ∷ at) (behind lines) bs
  behind_on p at lines bs h k = record {
    place = ap (λ (s : Spot). skip (Behind ∷ s.at) (behind s.lines) s.rest) (h.place ∙ kept_skip at lines bs k);
    is = ap behind h.is;
  }

  pub chosen_on : (p at : Place) (lines : Lines) (bs : List Bit) → IsThere p at lines bs → IsKept lines bs →
      IsThere (IntoChosen ∷ p) (IntoChosen ∷ at) (chosen_of lines) []
  chosen_on p at lines bs h k = record {
    place = ap (λ (s : Spot). skip (IntoChosen ∷ s.at) (chosen_of s.lines) []) (h.place ∙ kept_skip at lines bs k);
    is = ap chosen_of h.is;
  }

  pub other_on : (p at : Place) (lines : Lines) (bs : List Bit) → IsThere p at lines bs → IsKept lines bs →
      IsThere (IntoOther ∷ p) (IntoOther ∷ at) (other_of lines) []
  other_on p at lines bs h k = record {
    place = ap (λ (s : Spot). skip (IntoOther ∷ s.at) (other_of s.lines) []) (h.place ∙ kept_skip at lines bs k);
    is = ap other_of h.is;
  }

  pub under_way : (p at : Place) (site : ℕ) (first : Test) (test : Lines) (answer : Atom) (body rest : Lines)
      (bs : List Bit) → IsThere p at (LoopThen site first test answer body rest) bs → IsUnderWay p at test answer body
  under_way p at site first test answer body rest bs h = record {
    there = ap (λ (s : Spot). s.at) h.place;
    test_there = ap (λ (s : Spot). test_of s.lines) h.place;
    body_there = ap (λ (s : Spot). body_of s.lines) h.place;
    test_is = ap test_of h.is;
    body_is = ap body_of h.is;
  }

  pub test_there : (p at : Place) (test : Lines) (answer : Atom) (body : Lines) → IsUnderWay p at test answer body →
      IsThere (IntoTest ∷ p) (IntoTest ∷ at) test []
  test_there p at test answer body u =
      record { place = ap₂ (λ x y. skip (IntoTest ∷ x) y []) u.there u.test_there; is = u.test_is }

  pub body_there : (p at : Place) (test : Lines) (answer : Atom) (body : Lines) → IsUnderWay p at test answer body →
      IsThere (IntoBody ∷ p) (IntoBody ∷ at) body []
  body_there p at test answer body u =
      record { place = ap₂ (λ x y. skip (IntoBody ∷ x) y []) u.there u.body_there; is = u.body_is }

  front_on : (p at : Place) (leg : Leg) (lines : Lines) (bs : List Bit) → IsThere p at lines bs → IsKept lines bs →
      leg ∷ at ≡ leg ∷ (placed p).at
  front_on p at leg lines bs h k = ap (λ (s : Spot). leg ∷ s.at) (sym (h.place ∙ kept_skip at lines bs k))

  rest_fronts : (t : Tasks) (es : List Mark) → AreFronts t es → RestFronts t es
  rest_fronts NoTask es fr = tt
  rest_fronts (LinesAt at lines k) [] fr = fr
  rest_fronts (LinesAt at lines k) (Own p ∷ es) fr = fr.1
  rest_fronts (LinesAt at lines k) (More p ∷ es) fr = fr.1
  rest_fronts (AnswerAt at test answer body n k) [] fr = fr
  rest_fronts (AnswerAt at test answer body n k) (Own p ∷ es) fr = fr
  rest_fronts (AnswerAt at test answer body n k) (More p ∷ es) fr = fr

  module _ (launch : Launch) where
    abbrev simple : Kernel
    simple = spliced_of kernel

    -- a part that is joined to the next is at no end
    no_end : (k : Tasks) (es : List Mark) → AreJoined k es → IsKept NoLine (bits k es) → ⊥
    no_end (LinesAt at lines k) (Own p ∷ es) j kept = kept
    no_end (LinesAt at lines k) (More p ∷ es) j kept = kept
    no_end (LinesAt at lines k) [] j kept = j
    no_end NoTask es j kept = j
    no_end (AnswerAt at test answer body n k) es j kept = j

    -- ---- steps of kept lines of a part that is the end of a list

    pub branch_own : (i : Item) (t : Tasks) (p at : Place) (site : ℕ) (test : Atom) (chosen other rest : Lines)
        (k : Tasks)
        (es : List Mark) → IsThere p at (IfThen site test chosen other rest) [] → AreFine k es → AreFronts k es →
        is_decided test chosen other ≡ false → (b : Test)
        → Fronted (with_tasks (with_tasks i t) (if b
        then LinesAt (IntoOther ∷ p) (spliced other) (LinesAt (Behind ∷ p) (spliced rest) (spliced_tasks k es))
        else LinesAt (IntoChosen ∷ p) (spliced chosen) (LinesAt (Behind ∷ p) (spliced rest) (spliced_tasks k es))))
        (with_tasks i (if b then LinesAt (IntoOther ∷ at) other (LinesAt (Behind ∷ at) rest k)
        else LinesAt (IntoChosen ∷ at) chosen (LinesAt (Behind ∷ at) rest k)))
    branch_own i t p at site test chosen other rest k es h f fr e true = record {
      beside = record {
        marks = Own (IntoOther ∷ p) ∷ (Own (Behind ∷ p) ∷ es);
        same = refl;
        fine = (
          other_on p at (IfThen site test chosen other rest) [] h e,
          (
            behind_on p at
                (IfThen site test chosen other rest) [] h e,
            f,
          ),
        );
      };
      fronts = (
        front_on p at IntoOther (IfThen site test chosen other rest) [] h e,
        (front_on p at Behind (IfThen site test chosen other rest) [] h e, fr),
      );
    }
    branch_own i t p at site test chosen other rest k es h f fr e false = record {
      beside = record {
        marks = Own (IntoChosen ∷ p) ∷ (Own (Behind ∷ p) ∷ es);
        same = refl;
        fine = (
          chosen_on p at (IfThen site test chosen other rest) [] h e,
          (
            behind_on p at
                (IfThen site test chosen other rest) [] h e,
            f,
          ),
        );
      };
      fronts = (
        front_on p at IntoChosen (IfThen site test chosen other rest) [] h e,
        (front_on p at Behind (IfThen site test chosen other rest) [] h e, fr),
      );
    }

    label_own : (i : Item) (t : Tasks) (p at : Place) (lines : Lines) (k : Tasks) (es : List Mark) →
        IsThere p at lines [] → AreFine k es → AreFronts k es → IsKept lines []
        → SameLabel Fronted (line_next simple launch (with_tasks i t) p (spliced lines) (spliced_tasks k es))
        (line_next kernel launch i at lines k)
    label_own i t p at NoLine k es h f fr kept =
        both_go (record { beside = record { marks = es; same = refl; fine = f }; fronts = fr })
    label_own i t p at (SetThen to work rest) k es h f fr kept =
        both_go (record {
          beside = record {
            marks = Own (Behind ∷ p) ∷ es;
            same = ap (λ (z : ℤ). with_cell i
                (LinesAt (Behind ∷ p) (spliced rest) (spliced_tasks k es)) to z) (value_at kernel launch i t work);
            fine =
                (behind_on p at (SetThen to work rest) [] h tt, f);
          };
          fronts = (front_on p at Behind (SetThen to work rest) [] h tt, fr);
        })
    label_own i t p at (LoadThen site to element root index rest) k es h f fr kept =
        both_load (λ bytes. record {
          beside = record {
            marks = Own (Behind ∷ p) ∷ es;
            same = refl;
            fine =
                (behind_on p at (LoadThen site to element root index rest) [] h tt, f);
          };
          fronts = (front_on p at Behind (LoadThen site to element root index rest) [] h tt, fr);
        })
    label_own i t p at (StoreThen site element root index from rest) k es h f fr kept =
        both_store (record {
          beside = record {
            marks = Own (Behind ∷ p) ∷ es;
            same = refl;
            fine =
                (behind_on p at (StoreThen site element root index from rest) [] h tt, f);
          };
          fronts = (front_on p at Behind (StoreThen site element root index from rest) [] h tt, fr);
        })
    label_own i t p at (ClearThen array rest) k es h f fr kept =
        both_store (record {
          beside = record {
            marks = Own (Behind ∷ p) ∷ es;
            same = refl;
            fine =
                (behind_on p at (ClearThen array rest) [] h tt, f);
          };
          fronts = (front_on p at Behind (ClearThen array rest) [] h tt, fr);
        })
    label_own i t p at (IfThen site test chosen other rest) k es h f fr kept =
        subst (λ (b : Test). SameLabel Fronted (line_next simple launch (with_tasks i t) p
        (if b then joined_to (if is_zero (constant_value test) then spliced other else spliced chosen) (spliced rest)
        else (IfThen site test (spliced chosen) (spliced other) (spliced rest))) (spliced_tasks k es))
        (line_next kernel launch i at (IfThen site test chosen other rest) k)) (sym kept)
        (both_go (branch_own i t p at site test chosen other rest k es h f fr kept
        (is_zero (atom_value i.cells test))))
    label_own i t p at (LoopThen site true test answer body rest) k es h f fr kept =
        both_go (record {
          beside = record {
            marks = Own (IntoTest ∷ p) ∷ (Own p ∷ (Own (Behind ∷ p) ∷ es));
            same = refl;
            fine = (
              test_there p at test answer body (under_way p at site true test answer body rest [] h),
              (
                under_way p at site true test answer body rest [] h,
                (
                  behind_on p at
                      (LoopThen site true test answer body rest) [] h tt,
                  f,
                ),
              ),
            );
          };
          fronts = (
            front_on p at IntoTest (LoopThen site true test answer body rest) [] h tt,
            (front_on p at Behind (LoopThen site true test answer body rest) [] h tt, fr),
          );
        })
    label_own i t p at (LoopThen site false test answer body rest) k es h f fr kept =
        both_begin (record {
          beside = record {
            marks = Own (IntoBody ∷ p) ∷ (Own (IntoTest ∷ p) ∷ (Own p ∷ (Own (Behind ∷ p) ∷ es)));
            same
                = refl;
            fine = (
              body_there p at test answer body (under_way p at site false test answer body rest [] h),
              (
                test_there p at test answer body (under_way p at site false test answer body rest [] h),
                (
                  under_way p at site false test answer body rest [] h,
                  (
                    behind_on p at
                        (LoopThen site false test answer body rest) [] h tt,
                    f,
                  ),
                ),
              ),
            );
          };
          fronts = (
            front_on p at IntoBody (LoopThen site false test answer body rest) [] h tt,
            (
              front_on p at IntoTest (LoopThen site false test answer body rest) [] h tt,
              (front_on p at Behind (LoopThen site false test answer body rest) [] h tt, fr),
            ),
          );
        })
    label_own i t p at (BarrierThen site rest) k es h f fr kept =
        both_wait (record {
          beside = record {
            marks = Own (Behind ∷ p) ∷ es;
            same = refl;
            fine =
                (behind_on p at (BarrierThen site rest) [] h tt, f);
          };
          fronts = (front_on p at Behind (BarrierThen site rest) [] h tt, fr);
        })

    -- ---- steps of kept lines of a part that is joined to the next

    pub branch_more : (i : Item) (t : Tasks) (p at : Place) (site : ℕ) (test : Atom) (chosen other rest : Lines)
        (k : Tasks)
        (es : List Mark) → IsThere p at (IfThen site test chosen other rest) (bits k es) → AreJoined k es →
        RestFronts k es →
        is_decided test chosen other ≡ false → (b : Test)
        → Fronted (with_tasks (with_tasks i t) (if b
        then LinesAt (IntoOther ∷ p) (spliced other) (LinesAt (Behind ∷ p)
        (joined_to (spliced rest) (head_lines (spliced_tasks k es))) (rest_tasks (spliced_tasks k es)))
        else LinesAt (IntoChosen ∷ p) (spliced chosen) (LinesAt (Behind ∷ p)
        (joined_to (spliced rest) (head_lines (spliced_tasks k es))) (rest_tasks (spliced_tasks k es)))))
        (with_tasks i (if b then LinesAt (IntoOther ∷ at) other (LinesAt (Behind ∷ at) rest k)
        else LinesAt (IntoChosen ∷ at) chosen (LinesAt (Behind ∷ at) rest k)))
    branch_more i t p at site test chosen other rest k es h f fr e true = record {
      beside = record {
        marks = Own (IntoOther ∷ p) ∷ (More (Behind ∷ p) ∷ es);
        same = refl;
        fine = (
          other_on p at (IfThen site test chosen other rest) (bits k es) h e,
          (behind_on p at (IfThen site test chosen other rest) (bits k es) h e, f),
        );
      };
      fronts = (
        front_on p at IntoOther (IfThen site test chosen other rest) (bits k es) h e,
        (front_on p at Behind (IfThen site test chosen other rest) (bits k es) h e, fr),
      );
    }
    branch_more i t p at site test chosen other rest k es h f fr e false = record {
      beside = record {
        marks = Own (IntoChosen ∷ p) ∷ (More (Behind ∷ p) ∷ es);
        same = refl;
        fine = (
          chosen_on p at (IfThen site test chosen other rest) (bits k es) h e,
          (behind_on p at (IfThen site test chosen other rest) (bits k es) h e, f),
        );
      };
      fronts = (
        front_on p at IntoChosen (IfThen site test chosen other rest) (bits k es) h e,
        (front_on p at Behind (IfThen site test chosen other rest) (bits k es) h e, fr),
      );
    }

    label_more : (i : Item) (t : Tasks) (p at : Place) (lines : Lines) (k : Tasks) (es : List Mark) →
        IsThere p at lines (bits k es) → AreJoined k es → RestFronts k es → IsKept lines (bits k es)
        → SameLabel Fronted (line_next simple launch (with_tasks i t) p
        (joined_to (spliced lines) (head_lines (spliced_tasks k es))) (rest_tasks (spliced_tasks k es)))
        (line_next kernel launch i at lines k)
    label_more i t p at NoLine k es h f fr kept = absurd (no_end k es f kept)
    label_more i t p at (SetThen to work rest) k es h f fr kept =
        both_go (record {
          beside = record {
            marks = More (Behind ∷ p) ∷ es;
            same = ap (λ (z : ℤ). with_cell i
                (LinesAt (Behind ∷ p) (joined_to (spliced rest) (head_lines (spliced_tasks k es)))
                (rest_tasks (spliced_tasks k es))) to z) (value_at kernel launch i t work);
            fine =
                (behind_on p at (SetThen to work rest) (bits k es) h tt, f);
          };
          fronts = (front_on p at Behind (SetThen to work rest) (bits k es) h tt, fr);
        })
    label_more i t p at (LoadThen site to element root index rest) k es h f fr kept =
        both_load (λ bytes. record {
          beside = record {
            marks = More (Behind ∷ p) ∷ es;
            same = refl;
            fine =
                (behind_on p at (LoadThen site to element root index rest) (bits k es) h tt, f);
          };
          fronts = (front_on p at Behind (LoadThen site to element root index rest) (bits k es) h tt, fr);
        })
    label_more i t p at (StoreThen site element root index from rest) k es h f fr kept =
        both_store (record {
          beside = record {
            marks = More (Behind ∷ p) ∷ es;
            same = refl;
            fine =
                (behind_on p at (StoreThen site element root index from rest) (bits k es) h tt, f);
          };
          fronts = (front_on p at Behind (StoreThen site element root index from rest) (bits k es) h tt, fr);
        })
    label_more i t p at (ClearThen array rest) k es h f fr kept =
        both_store (record {
          beside = record {
            marks = More (Behind ∷ p) ∷ es;
            same = refl;
            fine =
                (behind_on p at (ClearThen array rest) (bits k es) h tt, f);
          };
          fronts = (front_on p at Behind (ClearThen array rest) (bits k es) h tt, fr);
        })
    label_more i t p at (IfThen site test chosen other rest) k es h f fr kept =
        subst (λ (b : Test). SameLabel Fronted (line_next simple launch (with_tasks i t) p
        (joined_to (if b then joined_to (if is_zero (constant_value test) then spliced other else spliced chosen)
        (spliced rest) else (IfThen site test (spliced chosen) (spliced other) (spliced rest)))
        (head_lines (spliced_tasks k es))) (rest_tasks (spliced_tasks k es)))
        (line_next kernel launch i at (IfThen site test chosen other rest) k)) (sym kept)
        (both_go (branch_more i t p at site test chosen other rest k es h f fr kept
        (is_zero (atom_value i.cells test))))
    label_more i t p at (LoopThen site true test answer body rest) k es h f fr kept =
        both_go (record {
          beside = record {
            marks = Own (IntoTest ∷ p) ∷ (Own p ∷ (More (Behind ∷ p) ∷ es));
            same = refl;
            fine = (
              test_there p at test answer body (under_way p at site true test answer body rest (bits k es) h),
              (
                under_way p at site true test answer body rest (bits k es) h,
                (behind_on p at (LoopThen site true test answer body rest) (bits k es) h tt, f),
              ),
            );
          };
          fronts = (
            front_on p at IntoTest (LoopThen site true test answer body rest) (bits k es) h tt,
            (front_on p at Behind (LoopThen site true test answer body rest) (bits k es) h tt, fr),
          );
        })
    label_more i t p at (LoopThen site false test answer body rest) k es h f fr kept =
        both_begin (record {
          beside = record {
            marks = Own (IntoBody ∷ p) ∷ (Own (IntoTest ∷ p) ∷ (Own p ∷ (More (Behind ∷ p) ∷ es)));
            same
                = refl;
            fine = (
              body_there p at test answer body (under_way p at site false test answer body rest
                  (bits k es) h),
              (
                test_there p at test answer body (under_way p at site false test answer body rest
                    (bits k es) h),
                (
                  under_way p at site false test answer body rest (bits k es) h,
                  (behind_on p at (LoopThen site false test answer body rest) (bits k es) h tt, f),
                ),
              ),
            );
          };
          fronts = (
            front_on p at IntoBody (LoopThen site false test answer body rest) (bits k es) h tt,
            (
              front_on p at IntoTest (LoopThen site false test answer body rest) (bits k es) h tt,
              (front_on p at Behind (LoopThen site false test answer body rest) (bits k es) h tt, fr),
            ),
          );
        })
    label_more i t p at (BarrierThen site rest) k es h f fr kept =
        both_wait (record {
          beside = record {
            marks = More (Behind ∷ p) ∷ es;
            same = refl;
            fine =
                (behind_on p at (BarrierThen site rest) (bits k es) h tt, f);
          };
          fronts = (front_on p at Behind (BarrierThen site rest) (bits k es) h tt, fr);
        })

    pub answered_beside : (i : Item) (t : Tasks) (p at : Place) (test : Lines) (answer : Atom) (body : Lines) (n : ℕ)
        (k : Tasks) (es : List Mark) → IsUnderWay p at test answer body → AreFine k es → AreFronts k es → (b : Test)
        → Fronted (with_tasks (with_tasks i t) (if b then spliced_tasks k es else
        iteration p (spliced test) answer (spliced body) (suc n) (spliced_tasks k es)))
        (with_tasks i (if b then k else iteration at test answer body (suc n) k))
    answered_beside i t p at test answer body n k es u f fr true =
        record { beside = record { marks = es; same = refl; fine = f }; fronts = fr }
    answered_beside i t p at test answer body n k es u f fr false = record {
      beside = record {
        marks = Own (IntoBody ∷ p) ∷ (Own (IntoTest ∷ p) ∷ (Own p ∷ es));
        same = refl;
        fine = (body_there p at test answer body u, (test_there p at test answer body u, (u, f)));
      };
      fronts = (ap (λ (x : Place). IntoBody ∷ x) (sym u.there), (ap (λ (x : Place). IntoTest ∷ x) (sym u.there), fr));
    }

    answer_label : (i : Item) (t : Tasks) (p at : Place) (test : Lines) (answer : Atom) (body : Lines) (n : ℕ)
        (k : Tasks) (es : List Mark) → IsUnderWay p at test answer body → AreFine k es → AreFronts k es → (b : Test)
        → SameLabel Fronted (if b then Goes (with_tasks (with_tasks i t) (spliced_tasks k es)) else Begins
        (with_tasks (with_tasks i t) (iteration p (spliced test) answer (spliced body) (suc n) (spliced_tasks k es))))
        (if b then Goes (with_tasks i k) else Begins (with_tasks i (iteration at test answer body (suc n) k)))
    answer_label i t p at test answer body n k es u f fr true =
        both_go (answered_beside i t p at test answer body n k es u f fr true)
    answer_label i t p at test answer body n k es u f fr false =
        both_begin (answered_beside i t p at test answer body n k es u f fr false)

    label_tasks : (i : Item) (t k : Tasks) (es : List Mark) → AreFine k es → RestFronts k es → IsReady k es →
        SameLabel Fronted (tasks_next simple launch (with_tasks i t) (spliced_tasks k es))
        (tasks_next kernel launch i k)
    label_tasks i t NoTask es f fr r = both_end
    label_tasks i t (LinesAt at lines k) [] f fr r = absurd f
    label_tasks i t (LinesAt at lines k) (Own p ∷ es) f fr r = label_own i t p at lines k es f.0 f.1 fr r
    label_tasks i t (LinesAt at lines k) (More p ∷ es) f fr r = label_more i t p at lines k es f.0 f.1 fr r
    label_tasks i t (AnswerAt at test answer body n k) [] f fr r = absurd f
    label_tasks i t (AnswerAt at test answer body n k) (More p ∷ es) f fr r = absurd f
    label_tasks i t (AnswerAt at test answer body n k) (Own p ∷ es) f fr r =
        answer_label i t p at test answer body n k es f.0 f.1 fr (is_zero (atom_value i.cells answer))

    -- both do the same, and stay beside each other
    pub labels : (i' i : Item) → (b : Beside i' i) → RestFronts i.tasks b.marks → IsReady i.tasks b.marks →
        SameLabel Fronted (item_next simple launch i') (item_next kernel launch i)
    labels i' i b fr r =
        subst (λ x. SameLabel Fronted (item_next simple launch x) (item_next kernel launch i)) (sym b.same)
        (label_tasks i (spliced_tasks i.tasks b.marks) i.tasks b.marks b.fine fr r)

    -- ---- past ends and into branches that a constant chooses

    pub record Skipped (i' i : Item) : Type 0 where
      pub steps : ℕ
      pub item : Item
      pub goes : GoesIn (item_next kernel launch) steps i item
      pub beside : Beside i' item
      pub ready : IsReady item.tasks beside.marks
      pub fronts : RestFronts item.tasks beside.marks

    ready_now : (i' i : Item) → (b : Beside i' i) → IsReady i.tasks b.marks → RestFronts i.tasks b.marks → Skipped i' i
    ready_now i' i b r fr = record { steps = 0; item = i; goes = refl; beside = b; ready = r; fronts = fr }

    after_one : (i' i mid : Item) → item_next kernel launch i ≡ Goes mid → Skipped i' mid → Skipped i' i
    after_one i' i mid e s = record {
      steps = suc s.steps;
      item = s.item;
      goes = (mid, e, s.goes);
      beside = s.beside;
      ready = s.ready;
      fronts = s.fronts;
    }

    abbrev pub item_of : ℕ → (ℕ → ℤ) → Tasks → Item
    item_of number cells t = record { number = number; cells = cells; tasks = t }

    pub popped_same : (p : Place) (k : Tasks) (es : List Mark) → AreJoined k es →
        LinesAt p (head_lines (spliced_tasks k es)) (rest_tasks (spliced_tasks k es)) ≡ spliced_tasks k (moved_to p es)
    popped_same p (LinesAt at lines k) (Own q ∷ es) j = refl
    popped_same p (LinesAt at lines k) (More q ∷ es) j = refl
    popped_same p (LinesAt at lines k) [] j = absurd j
    popped_same p NoTask es j = absurd j
    popped_same p (AnswerAt at test answer body n k) es j = absurd j

    pub popped_fine : (p at : Place) (k : Tasks) (es : List Mark) → IsThere p at NoLine (bits k es) → AreJoined k es →
        AreFine k (moved_to p es)
    popped_fine p at (LinesAt at' lines k) (Own q ∷ es) h j = (record { place = h.place; is = j.0 }, j.1)
    popped_fine p at (LinesAt at' lines k) (More q ∷ es) h j = (record { place = h.place; is = j.0 }, j.1)
    popped_fine p at (LinesAt at' lines k) [] h j = absurd j
    popped_fine p at NoTask es h j = absurd j
    popped_fine p at (AnswerAt at' test answer body n k) es h j = absurd j

    pub popped_fronts : (p : Place) (k : Tasks) (es : List Mark) → AreJoined k es → RestFronts k es →
        RestFronts k (moved_to p es)
    popped_fronts p (LinesAt at lines k) (Own q ∷ es) j fr = fr
    popped_fronts p (LinesAt at lines k) (More q ∷ es) j fr = fr
    popped_fronts p (LinesAt at lines k) [] j fr = absurd j
    popped_fronts p NoTask es j fr = absurd j
    popped_fronts p (AnswerAt at test answer body n k) es j fr = absurd j

    -- into the branch that the constant chooses
    enters : (i' : Item) (number : ℕ) (cells : ℕ → ℤ) (at : Place) (site : ℕ) (test : Atom) (chosen other rest : Lines)
        (k : Tasks) → is_decided test chosen other ≡ true → (b : Test) → is_zero (constant_value test) ≡ b
        → Skipped i' (item_of number cells (if b then LinesAt (IntoOther ∷ at) other (LinesAt (Behind ∷ at) rest k)
        else LinesAt (IntoChosen ∷ at) chosen (LinesAt (Behind ∷ at) rest k)))
        → Skipped i' (item_of number cells (LinesAt at (IfThen site test chosen other rest) k))
    enters i' number cells at site test chosen other rest k d b z s =
        after_one i' _ _
        (ap (λ (v : ℤ). Goes (item_of number cells (branched v at chosen other rest k)))
        (constant_holds cells test (and_parts (is_constant test) _ d).0)
        ∙ ap (λ (b : Test). Goes (item_of number cells (if b
        then LinesAt (IntoOther ∷ at) other (LinesAt (Behind ∷ at) rest k)
        else LinesAt (IntoChosen ∷ at) chosen (LinesAt (Behind ∷ at) rest k)))) z) s

    pub other_there : (p at : Place) (site : ℕ) (test : Atom) (chosen other rest : Lines) (bs : List Bit) →
        IsThere p at (IfThen site test chosen other rest) bs → is_decided test chosen other ≡ true →
        is_zero (constant_value test) ≡ true → IsThere p (IntoOther ∷ at) other (bit (Behind ∷ at) rest ∷ bs)
    other_there p at site test chosen other rest bs h d z = record {
      place = h.place ∙ (into_skip at site test chosen other rest bs d ∙
          ap (λ (b : Test). if b then skip (IntoOther ∷ at) other (bit (Behind ∷ at) rest ∷ bs)
          else skip (IntoChosen ∷ at) chosen (bit (Behind ∷ at) rest ∷ bs)) z);
      is = ap other_of h.is;
    }

    pub chosen_there : (p at : Place) (site : ℕ) (test : Atom) (chosen other rest : Lines) (bs : List Bit) →
        IsThere p at (IfThen site test chosen other rest) bs → is_decided test chosen other ≡ true →
        is_zero (constant_value test) ≡ false → IsThere p (IntoChosen ∷ at) chosen (bit (Behind ∷ at) rest ∷ bs)
    chosen_there p at site test chosen other rest bs h d z = record {
      place = h.place ∙ (into_skip at site test chosen other rest bs d ∙
          ap (λ (b : Test). if b then skip (IntoOther ∷ at) other (bit (Behind ∷ at) rest ∷ bs)
          else skip (IntoChosen ∷ at) chosen (bit (Behind ∷ at) rest ∷ bs)) z);
      is = ap chosen_of h.is;
    }

    choice_more : (i' : Item) (number : ℕ) (cells : ℕ → ℤ) (at : Place) (site : ℕ) (test : Atom)
        (chosen other rest : Lines) (k : Tasks) (p : Place) (es : List Mark) →
        IsThere p at (IfThen site test chosen other rest) (bits k es) → AreJoined k es → RestFronts k es
        → (i' ≡ item_of number cells (LinesAt p (joined_to (spliced other)
        (joined_to (spliced rest) (head_lines (spliced_tasks k es)))) (rest_tasks (spliced_tasks k es))) →
        IsThere p (IntoOther ∷ at) other (bit (Behind ∷ at) rest ∷ (bits k es)) →
        Skipped i' (item_of number cells (LinesAt (IntoOther ∷ at) other (LinesAt (Behind ∷ at) rest k))))
        → (i' ≡ item_of number cells (LinesAt p (joined_to (spliced chosen)
        (joined_to (spliced rest) (head_lines (spliced_tasks k es)))) (rest_tasks (spliced_tasks k es))) →
        IsThere p (IntoChosen ∷ at) chosen (bit (Behind ∷ at) rest ∷ (bits k es)) →
        Skipped i' (item_of number cells (LinesAt (IntoChosen ∷ at) chosen (LinesAt (Behind ∷ at) rest k))))
        → (d : Test) → is_decided test chosen other ≡ d → (b : Test) → is_zero (constant_value test) ≡ b
        → i' ≡ item_of number cells (LinesAt p (joined_to (if d then joined_to
        (if is_zero (constant_value test) then spliced other else spliced chosen) (spliced rest) else
        (IfThen site test (spliced chosen) (spliced other) (spliced rest))) (head_lines (spliced_tasks k es)))
        (rest_tasks (spliced_tasks k es)))
        → Skipped i' (item_of number cells (LinesAt at (IfThen site test chosen other rest) k))
    choice_more i' number cells at site test chosen other rest k p es h f fr go_other go_chosen false e b z same =
        ready_now i' _ (record {
          marks = More p ∷ es;
          same = same ∙ ap (λ (d : Test). item_of number cells (LinesAt p
              (joined_to (if d then joined_to (if is_zero (constant_value test) then spliced other else spliced chosen)
              (spliced rest) else (IfThen site test (spliced chosen) (spliced other) (spliced rest)))
              (head_lines (spliced_tasks k es))) (rest_tasks (spliced_tasks k es)))) (sym e);
          fine = (h, f);
        }) e fr
    choice_more i' number cells at site test chosen other rest k p es h f fr go_other go_chosen true e true z same =
        enters i' number cells at site test chosen other rest k e true z
        (go_other (same ∙ (ap (λ (b : Test). item_of number cells (LinesAt p
        (joined_to (joined_to (if b then spliced other else spliced chosen) (spliced rest))
        (head_lines (spliced_tasks k es))) (rest_tasks (spliced_tasks k es)))) z ∙
        ap (λ ls. item_of number cells (LinesAt p ls (rest_tasks (spliced_tasks k es))))
        (join_assoc (spliced other) (spliced rest) (head_lines (spliced_tasks k es)))))
        (other_there p at site test chosen other rest (bits k es) h e z))
    choice_more i' number cells at site test chosen other rest k p es h f fr go_other go_chosen true e false z same =
        enters i' number cells at site test chosen other rest k e false z
        (go_chosen (same ∙ (ap (λ (b : Test). item_of number cells (LinesAt p
        (joined_to (joined_to (if b then spliced other else spliced chosen) (spliced rest))
        (head_lines (spliced_tasks k es))) (rest_tasks (spliced_tasks k es)))) z ∙
        ap (λ ls. item_of number cells (LinesAt p ls (rest_tasks (spliced_tasks k es))))
        (join_assoc (spliced chosen) (spliced rest) (head_lines (spliced_tasks k es)))))
        (chosen_there p at site test chosen other rest (bits k es) h e z))

    go_more : (lines : Lines) (i' : Item) (number : ℕ) (cells : ℕ → ℤ) (at : Place) (k : Tasks) (p : Place)
        (es : List Mark) → IsThere p at lines (bits k es) → AreJoined k es → RestFronts k es →
        (i' ≡ item_of number cells (spliced_tasks k (moved_to p es)) → AreFine k (moved_to p es) →
        RestFronts k (moved_to p es) → Skipped i' (item_of number cells k)) →
        i' ≡ item_of number cells (LinesAt p (joined_to (spliced lines) (head_lines (spliced_tasks k es)))
        (rest_tasks (spliced_tasks k es)))
        → Skipped i' (item_of number cells (LinesAt at lines k))
    go_more NoLine i' number cells at k p es h f fr pop same =
        after_one i' _ (item_of number cells k) refl
        (pop (same ∙ ap (item_of number cells) (popped_same p k es f)) (popped_fine p at k es h f)
        (popped_fronts p k es f fr))
    go_more (SetThen to work rest) i' number cells at k p es h f fr pop same =
        ready_now i' _ (record { marks = More p ∷ es; same = same; fine = (h, f) }) tt fr
    go_more (LoadThen site to element root index rest) i' number cells at k p es h f fr pop same =
        ready_now i' _ (record { marks = More p ∷ es; same = same; fine = (h, f) }) tt fr
    go_more (StoreThen site element root index from rest) i' number cells at k p es h f fr pop same =
        ready_now i' _ (record { marks = More p ∷ es; same = same; fine = (h, f) }) tt fr
    go_more (ClearThen array rest) i' number cells at k p es h f fr pop same =
        ready_now i' _ (record { marks = More p ∷ es; same = same; fine = (h, f) }) tt fr
    go_more (LoopThen site first test answer body rest) i' number cells at k p es h f fr pop same =
        ready_now i' _ (record { marks = More p ∷ es; same = same; fine = (h, f) }) tt fr
    go_more (BarrierThen site rest) i' number cells at k p es h f fr pop same =
        ready_now i' _ (record { marks = More p ∷ es; same = same; fine = (h, f) }) tt fr
    go_more (IfThen site test chosen other rest) i' number cells at k p es h f fr pop same =
        choice_more i' number cells at site test chosen other rest k p es h f fr
        (λ same there. go_more other i' number cells (IntoOther ∷ at) (LinesAt (Behind ∷ at) rest k) p (More p ∷ es)
        there
        (ap behind h.is, f) fr (λ same fine fr'. go_more rest i' number cells (Behind ∷ at) k p es fine.0 fine.1 fr' pop
        same) same)
        (λ same there. go_more chosen i' number cells (IntoChosen ∷ at) (LinesAt (Behind ∷ at) rest k) p (More p ∷ es)
        there
        (ap behind h.is, f) fr (λ same fine fr'. go_more rest i' number cells (Behind ∷ at) k p es fine.0 fine.1 fr' pop
        same) same)
        (is_decided test chosen other) refl (is_zero (constant_value test)) refl same

    choice_own : (i' : Item) (number : ℕ) (cells : ℕ → ℤ) (at : Place) (site : ℕ) (test : Atom)
        (chosen other rest : Lines) (k : Tasks) (p : Place) (es : List Mark) →
        IsThere p at (IfThen site test chosen other rest) [] → AreFine k es → AreFronts k es
        → (i' ≡ item_of number cells (LinesAt p (joined_to (spliced other) (spliced rest)) (spliced_tasks k es)) →
        IsThere p (IntoOther ∷ at) other (bit (Behind ∷ at) rest ∷ []) →
        Skipped i' (item_of number cells (LinesAt (IntoOther ∷ at) other (LinesAt (Behind ∷ at) rest k))))
        → (i' ≡ item_of number cells (LinesAt p (joined_to (spliced chosen) (spliced rest)) (spliced_tasks k es)) →
        IsThere p (IntoChosen ∷ at) chosen (bit (Behind ∷ at) rest ∷ []) →
        Skipped i' (item_of number cells (LinesAt (IntoChosen ∷ at) chosen (LinesAt (Behind ∷ at) rest k))))
        → (d : Test) → is_decided test chosen other ≡ d → (b : Test) → is_zero (constant_value test) ≡ b
        → i' ≡ item_of number cells (LinesAt p (if d then joined_to (if is_zero (constant_value test) then spliced other
        else spliced chosen) (spliced rest) else (IfThen site test (spliced chosen) (spliced other) (spliced rest)))
        (spliced_tasks k es))
        → Skipped i' (item_of number cells (LinesAt at (IfThen site test chosen other rest) k))
    choice_own i' number cells at site test chosen other rest k p es h f fr go_other go_chosen false e b z same =
        ready_now i' _ (record {
          marks = Own p ∷ es;
          same = same ∙ ap (λ (d : Test). item_of number cells (LinesAt p
              (if d then joined_to (if is_zero (constant_value test) then spliced other else spliced chosen)
              (spliced rest) else (IfThen site test (spliced chosen) (spliced other) (spliced rest)))
              (spliced_tasks k es))) (sym e);
          fine = (h, f);
        }) e fr
    choice_own i' number cells at site test chosen other rest k p es h f fr go_other go_chosen true e true z same =
        enters i' number cells at site test chosen other rest k e true z
        (go_other (same ∙ (ap (λ (b : Test). item_of number cells (LinesAt p
        (joined_to (if b then spliced other else spliced chosen) (spliced rest)) (spliced_tasks k es))) z))
        (other_there p at site test chosen other rest [] h e z))
    choice_own i' number cells at site test chosen other rest k p es h f fr go_other go_chosen true e false z same =
        enters i' number cells at site test chosen other rest k e false z
        (go_chosen (same ∙ (ap (λ (b : Test). item_of number cells (LinesAt p
        (joined_to (if b then spliced other else spliced chosen) (spliced rest)) (spliced_tasks k es))) z))
        (chosen_there p at site test chosen other rest [] h e z))

    go_own : (lines : Lines) (i' : Item) (number : ℕ) (cells : ℕ → ℤ) (at : Place) (k : Tasks) (p : Place)
        (es : List Mark) → IsThere p at lines [] → AreFine k es → AreFronts k es →
        i' ≡ item_of number cells (LinesAt p (spliced lines) (spliced_tasks k es))
        → Skipped i' (item_of number cells (LinesAt at lines k))
    go_own NoLine i' number cells at k p es h f fr same =
        ready_now i' _ (record { marks = Own p ∷ es; same = same; fine = (h, f) }) tt fr
    go_own (SetThen to work rest) i' number cells at k p es h f fr same =
        ready_now i' _ (record { marks = Own p ∷ es; same = same; fine = (h, f) }) tt fr
    go_own (LoadThen site to element root index rest) i' number cells at k p es h f fr same =
        ready_now i' _ (record { marks = Own p ∷ es; same = same; fine = (h, f) }) tt fr
    go_own (StoreThen site element root index from rest) i' number cells at k p es h f fr same =
        ready_now i' _ (record { marks = Own p ∷ es; same = same; fine = (h, f) }) tt fr
    go_own (ClearThen array rest) i' number cells at k p es h f fr same =
        ready_now i' _ (record { marks = Own p ∷ es; same = same; fine = (h, f) }) tt fr
    go_own (LoopThen site first test answer body rest) i' number cells at k p es h f fr same =
        ready_now i' _ (record { marks = Own p ∷ es; same = same; fine = (h, f) }) tt fr
    go_own (BarrierThen site rest) i' number cells at k p es h f fr same =
        ready_now i' _ (record { marks = Own p ∷ es; same = same; fine = (h, f) }) tt fr
    go_own (IfThen site test chosen other rest) i' number cells at k p es h f fr same =
        choice_own i' number cells at site test chosen other rest k p es h f fr
        (λ same there. go_more other i' number cells (IntoOther ∷ at) (LinesAt (Behind ∷ at) rest k) p (Own p ∷ es)
        there
        (ap behind h.is, f) fr (λ same fine fr'. go_own rest i' number cells (Behind ∷ at) k p es fine.0 fine.1 fr'
        same) same)
        (λ same there. go_more chosen i' number cells (IntoChosen ∷ at) (LinesAt (Behind ∷ at) rest k) p (Own p ∷ es)
        there
        (ap behind h.is, f) fr (λ same fine fr'. go_own rest i' number cells (Behind ∷ at) k p es fine.0 fine.1 fr'
        same) same)
        (is_decided test chosen other) refl (is_zero (constant_value test)) refl same

    skip_tasks : (i' : Item) (number : ℕ) (cells : ℕ → ℤ) (t : Tasks) (es : List Mark) → AreFine t es →
        RestFronts t es →
        i' ≡ item_of number cells (spliced_tasks t es) → Skipped i' (item_of number cells t)
    skip_tasks i' number cells NoTask es f fr same =
        ready_now i' _ (record { marks = es; same = same; fine = f }) tt fr
    skip_tasks i' number cells (LinesAt at lines k) [] f fr same = absurd f
    skip_tasks i' number cells (LinesAt at lines k) (Own p ∷ es) f fr same =
        go_own lines i' number cells at k p es f.0 f.1 fr same
    skip_tasks i' number cells (LinesAt at lines k) (More p ∷ es) f fr same =
        go_more lines i' number cells at k p es f.0 f.1 fr
        (λ same fine fr'. skip_tasks i' number cells k (moved_to p es) fine fr' same) same
    skip_tasks i' number cells (AnswerAt at test answer body n k) [] f fr same = absurd f
    skip_tasks i' number cells (AnswerAt at test answer body n k) (More p ∷ es) f fr same = absurd f
    skip_tasks i' number cells (AnswerAt at test answer body n k) (Own p ∷ es) f fr same =
        ready_now i' _ (record { marks = Own p ∷ es; same = same; fine = f }) tt fr

    -- an item goes on to a line that is kept
    pub skipped : (i' i : Item) → Fronted i' i → Skipped i' i
    skipped i' i b = skip_tasks i' i.number i.cells i.tasks b.beside.marks b.beside.fine
        (rest_fronts i.tasks b.beside.marks b.fronts) b.beside.same

  -- both start beside each other
  pub start_beside : (number : ℕ) → Fronted
      (record { number = number; cells = λ c. pos 0; tasks = LinesAt [] (spliced_of kernel).body NoTask })
      (record { number = number; cells = λ c. pos 0; tasks = LinesAt [] kernel.body NoTask })
  start_beside number = record {
    beside = record { marks = Own [] ∷ []; same = refl; fine = (record { place = refl; is = refl }, tt) };
    fronts = (refl, tt);
  }
