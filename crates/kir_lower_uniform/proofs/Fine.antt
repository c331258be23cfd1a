-- Which variables' cells are live at the places of a text: those at a cut cross, and no two at one place have
-- disjoint scopes.
use Rattle.std.proofs.Common.{◌≡◌, ℕ, [], ◌∷◌, refl, inl, inr}
use Rattle.std.specs.Prelude.{◌||◌}
use Rattle.std.specs.Prelude.{Bool as Test, true, false}
use Rattle.cl_model.specs.Tree.{Program}
use Rattle.kir.specs.Tree.{Variable, Lines, NoLine, SetThen, LoadThen, StoreThen, ClearThen, IfThen, LoopThen}
use Rattle.kir.specs.Tree.{BarrierThen, Kernel}
use Rattle.kir.specs.Places.{Behind, IntoChosen, IntoOther, IntoTest, ToAnswer, IntoBody, Place, lines_at, behind}
use Rattle.kir.specs.Places.{chosen_of, other_of, test_of, body_of, answer_of}
use Rattle.kir.specs.Live.{live_in}
use Rattle.kir.specs.Cuts.{holds_barrier, is_barrier, is_choice, is_round, ends_part, is_cut}
use Rattle.kir.specs.Homes.{IsCellOf}
use Rattle.kir.specs.Inlined.{Crosses, AreDisjoint}
use Rattle.kir.specs.Lowering.{HasCuts}
use Rattle.kir_uniform.specs.Uniform.{tested}
use Rattle.kir_uniform.specs.Path.{after_at}
use Rattle.kir_uniform.proofs.Living.{or_either}
use Rattle.kir_uniform.proofs.UniformCells.{at_place, place_live}

module _ (program : Program) (kernel : Kernel) where
  -- a variable's cell that is live crosses
  abbrev pub Crossing : (ℕ → Test) → Type 0
  Crossing live = (v : Variable) (c : ℕ) → IsCellOf kernel v c → live c ≡ true → Crosses program v

  -- no two that are live are of variables with disjoint scopes
  abbrev pub Meeting : (ℕ → Test) → Type 0
  Meeting live = (v w : Variable) (c d : ℕ) → IsCellOf kernel v c → IsCellOf kernel w d → live c ≡ true →
      live d ≡ true → AreDisjoint program v w → ⊥

  -- so it is wherever an item stands in the lines, where `out` says what is live behind them
  abbrev pub Fine : (ℕ → Test) → Lines → Type 0
  Fine out NoLine = Meeting out
  Fine out (SetThen to work rest) = Meeting (λ c. live_in c (SetThen to work rest) (out c)) × Fine out rest
  Fine out (LoadThen site to element root index rest) =
      Meeting (λ c. live_in c (LoadThen site to element root index rest) (out c)) × Fine out rest
  Fine out (StoreThen site element root index from rest) =
      Meeting (λ c. live_in c (StoreThen site element root index from rest) (out c)) × Fine out rest
  Fine out (ClearThen array rest) = Meeting (λ c. live_in c (ClearThen array rest) (out c)) × Fine out rest
  Fine out (IfThen site test chosen other rest) =
      Meeting (λ c. live_in c (IfThen site test chosen other rest) (out c))
      × ((holds_barrier chosen || holds_barrier other) ≡ true →
      Crossing (λ c. live_in c (IfThen site test chosen other rest) (out c)) ×
      Crossing (λ c. live_in c rest (out c)))
      × Fine (λ c. live_in c rest (out c)) chosen × Fine (λ c. live_in c rest (out c)) other × Fine out rest
  Fine out (LoopThen site first test answer body rest) =
      Meeting (λ c. live_in c (LoopThen site first test answer body rest) (out c))
      × ((holds_barrier test || holds_barrier body) ≡ true →
      Crossing (λ c. live_in c test (tested test answer body (λ d. live_in d rest (out d)) c)) ×
      Crossing (tested test answer body (λ d. live_in d rest (out d)))
      × Crossing (λ c. live_in c body (live_in c test (tested test answer body (λ d. live_in d rest (out d)) c))))
      × Meeting (tested test answer body (λ d. live_in d rest (out d)))
      × Fine (tested test answer body (λ d. live_in d rest (out d))) test ×
      Fine (λ c. live_in c test (tested test answer body (λ d. live_in d rest (out d)) c)) body × Fine out rest
  Fine out (BarrierThen site rest) = Meeting (λ c. live_in c (BarrierThen site rest) (out c)) ×
      Crossing (λ c. live_in c (BarrierThen site rest) (out c)) × Fine out rest

  -- ---- at a place

  meets : (out : ℕ → Test) (lines : Lines) → Fine out lines → Meeting (λ c. live_in c lines (out c))
  meets out NoLine f = f
  meets out (SetThen to work rest) f = f.0
  meets out (LoadThen site to element root index rest) f = f.0
  meets out (StoreThen site element root index from rest) f = f.0
  meets out (ClearThen array rest) f = f.0
  meets out (IfThen site test chosen other rest) f = f.0
  meets out (LoopThen site first test answer body rest) f = f.0
  meets out (BarrierThen site rest) f = f.0

  at_barrier : (out : ℕ → Test) (lines : Lines) → Fine out lines → is_barrier lines ≡ true →
      Crossing (λ c. live_in c lines (out c))
  at_barrier out (BarrierThen site rest) f e = f.1
  at_barrier out NoLine f e = cc e
  at_barrier out (SetThen to work rest) f e = cc e
  at_barrier out (LoadThen site to element root index rest) f e = cc e
  at_barrier out (StoreThen site element root index from rest) f e = cc e
  at_barrier out (ClearThen array rest) f e = cc e
  at_barrier out (IfThen site test chosen other rest) f e = cc e
  at_barrier out (LoopThen site first test answer body rest) f e = cc e

  at_choice : (out : ℕ → Test) (lines : Lines) → Fine out lines → is_choice lines ≡ true →
      Crossing (λ c. live_in c lines (out c)) × Crossing (λ c. live_in c (behind lines) (out c))
  at_choice out (IfThen site test chosen other rest) f e = f.1 e
  at_choice out NoLine f e = cc e
  at_choice out (SetThen to work rest) f e = cc e
  at_choice out (LoadThen site to element root index rest) f e = cc e
  at_choice out (StoreThen site element root index from rest) f e = cc e
  at_choice out (ClearThen array rest) f e = cc e
  at_choice out (LoopThen site first test answer body rest) f e = cc e
  at_choice out (BarrierThen site rest) f e = cc e

  abbrev Heads : Lines → (ℕ → Test) → ℕ → Test
  Heads lines out = tested (test_of lines) (answer_of lines) (body_of lines) (λ d. live_in d (behind lines) (out d))

  at_round : (out : ℕ → Test) (lines : Lines) → Fine out lines → is_round lines ≡ true
      → Crossing (λ c. live_in c (test_of lines) (Heads lines out c)) × Crossing (Heads lines out) ×
      Crossing (λ c. live_in c (body_of lines) (live_in c (test_of lines) (Heads lines out c)))
  at_round out (LoopThen site first test answer body rest) f e = f.1 e
  at_round out NoLine f e = cc e
  at_round out (SetThen to work rest) f e = cc e
  at_round out (LoadThen site to element root index rest) f e = cc e
  at_round out (StoreThen site element root index from rest) f e = cc e
  at_round out (ClearThen array rest) f e = cc e
  at_round out (IfThen site test chosen other rest) f e = cc e
  at_round out (BarrierThen site rest) f e = cc e

  -- no cell is live outside the text
  nothing_meets : Meeting (λ c. false)
  nothing_meets v w c d i j a b disjoint = absurd (let z : false ≡ true = a in cc)

  -- a part of lines that are fine is, or there is none
  module _ (text : Lines) (fine : Fine (λ c. false) text) where
    fine_at : (at : Place) → (Fine (after_at text at) (lines_at text at))
    fine_at [] = fine
    fine_at (Behind ∷ at) = by (lines_at text at) (after_at text at) (fine_at at)
      where
        by : (lines : Lines) (out : ℕ → Test) → Fine out lines → Fine out (behind lines)
        by NoLine out f = f
        by (SetThen to work rest) out f = f.1
        by (LoadThen site to element root index rest) out f = f.1
        by (StoreThen site element root index from rest) out f = f.1
        by (ClearThen array rest) out f = f.1
        by (IfThen site test chosen other rest) out f = f.4
        by (LoopThen site first test answer body rest) out f = f.5
        by (BarrierThen site rest) out f = f.2
    fine_at (IntoChosen ∷ at) = by (lines_at text at) (after_at text at) (fine_at at)
      where
        by : (lines : Lines) (out : ℕ → Test) → Fine out lines →
            Fine (λ c. live_in c (behind lines) (out c)) (chosen_of lines)
        by NoLine out f = f
        by (SetThen to work rest) out f = meets out rest f.1
        by (LoadThen site to element root index rest) out f = meets out rest f.1
        by (StoreThen site element root index from rest) out f = meets out rest f.1
        by (ClearThen array rest) out f = meets out rest f.1
        by (IfThen site test chosen other rest) out f = f.2
        by (LoopThen site first test answer body rest) out f = meets out rest f.5
        by (BarrierThen site rest) out f = meets out rest f.2
    fine_at (IntoOther ∷ at) = by (lines_at text at) (after_at text at) (fine_at at)
      where
        by : (lines : Lines) (out : ℕ → Test) → Fine out lines →
            Fine (λ c. live_in c (behind lines) (out c)) (other_of lines)
        by NoLine out f = f
        by (SetThen to work rest) out f = meets out rest f.1
        by (LoadThen site to element root index rest) out f = meets out rest f.1
        by (StoreThen site element root index from rest) out f = meets out rest f.1
        by (ClearThen array rest) out f = meets out rest f.1
        by (IfThen site test chosen other rest) out f = f.3
        by (LoopThen site first test answer body rest) out f = meets out rest f.5
        by (BarrierThen site rest) out f = meets out rest f.2
    fine_at (IntoTest ∷ at) = by (lines_at text at) (after_at text at) (fine_at at)
      where
        none : (lines : Lines) (out : ℕ → Test) → Meeting (λ c. live_in c lines (out c)) →
            Meeting (λ c. false || (live_in c lines (out c) || false))
        none lines out m v w c d i j a b disjoint =
            m v w c d i j (last (live_in c lines (out c)) a) (last (live_in d lines (out d)) b) disjoint
          where
            last : (b : Test) → (b || false) ≡ true → b ≡ true
            last true e = refl
            last false e = e

        by : (lines : Lines) (out : ℕ → Test) → Fine out lines → Fine (Heads lines out) (test_of lines)
        by NoLine out f = none NoLine out f
        by (SetThen to work rest) out f = none rest out (meets out rest f.1)
        by (LoadThen site to element root index rest) out f = none rest out (meets out rest f.1)
        by (StoreThen site element root index from rest) out f = none rest out (meets out rest f.1)
        by (ClearThen array rest) out f = none rest out (meets out rest f.1)
        by (IfThen site test chosen other rest) out f = none rest out (meets out rest f.4)
        by (LoopThen site first test answer body rest) out f = f.3
        by (BarrierThen site rest) out f = none rest out (meets out rest f.2)
    fine_at (ToAnswer ∷ at) = by (lines_at text at) (after_at text at) (fine_at at)
      where
        none : (lines : Lines) (out : ℕ → Test) → Meeting (λ c. live_in c lines (out c)) →
            Meeting (λ c. false || (live_in c lines (out c) || false))
        none lines out m v w c d i j a b disjoint =
            m v w c d i j (last (live_in c lines (out c)) a) (last (live_in d lines (out d)) b) disjoint
          where
            last : (b : Test) → (b || false) ≡ true → b ≡ true
            last true e = refl
            last false e = e

        by : (lines : Lines) (out : ℕ → Test) → Fine out lines → Meeting (Heads lines out)
        by NoLine out f = none NoLine out f
        by (SetThen to work rest) out f = none rest out (meets out rest f.1)
        by (LoadThen site to element root index rest) out f = none rest out (meets out rest f.1)
        by (StoreThen site element root index from rest) out f = none rest out (meets out rest f.1)
        by (ClearThen array rest) out f = none rest out (meets out rest f.1)
        by (IfThen site test chosen other rest) out f = none rest out (meets out rest f.4)
        by (LoopThen site first test answer body rest) out f = f.2
        by (BarrierThen site rest) out f = none rest out (meets out rest f.2)
    fine_at (IntoBody ∷ at) = by (lines_at text at) (after_at text at) (fine_at at)
      where
        none : (lines : Lines) (out : ℕ → Test) → Meeting (λ c. live_in c lines (out c)) →
            Meeting (λ c. false || (live_in c lines (out c) || false))
        none lines out m v w c d i j a b disjoint =
            m v w c d i j (last (live_in c lines (out c)) a) (last (live_in d lines (out d)) b) disjoint
          where
            last : (b : Test) → (b || false) ≡ true → b ≡ true
            last true e = refl
            last false e = e

        by : (lines : Lines) (out : ℕ → Test) → Fine out lines →
            Fine (λ c. live_in c (test_of lines) (Heads lines out c)) (body_of lines)
        by NoLine out f = none NoLine out f
        by (SetThen to work rest) out f = none rest out (meets out rest f.1)
        by (LoadThen site to element root index rest) out f = none rest out (meets out rest f.1)
        by (StoreThen site element root index from rest) out f = none rest out (meets out rest f.1)
        by (ClearThen array rest) out f = none rest out (meets out rest f.1)
        by (IfThen site test chosen other rest) out f = none rest out (meets out rest f.4)
        by (LoopThen site first test answer body rest) out f = f.4
        by (BarrierThen site rest) out f = none rest out (meets out rest f.2)

    ends_cross : (at : Place) → ends_part text at ≡ true →
        Crossing (λ c. live_in c (lines_at text at) (after_at text at c))
    ends_cross [] e = cc e
    ends_cross (Behind ∷ at) e = (at_choice (after_at text at) (lines_at text at) (fine_at at) e).1
    ends_cross (IntoChosen ∷ at) e = cc e
    ends_cross (IntoOther ∷ at) e = cc e
    ends_cross (IntoTest ∷ at) e = (at_round (after_at text at) (lines_at text at) (fine_at at) e).0
    ends_cross (ToAnswer ∷ at) e = (at_round (after_at text at) (lines_at text at) (fine_at at) e).1
    ends_cross (IntoBody ∷ at) e = (at_round (after_at text at) (lines_at text at) (fine_at at) e).2

    cut_crosses : (at : Place) → is_cut text at ≡ true →
        Crossing (λ c. live_in c (lines_at text at) (after_at text at c))
    cut_crosses at e =
        elim (or_either (is_barrier (lines_at text at)) _ e) [
          | inl b ↦ at_barrier (after_at text at) (lines_at text at) (fine_at at) b
          | inr r ↦ elim (or_either (is_choice (lines_at text at)) _ r) [
            | inl b ↦ (at_choice (after_at text at) (lines_at text at) (fine_at at) b).0
            | inr b ↦ ends_cross at b
          ]
        ]

  -- a kernel whose text is fine has its cuts
  pub has_cuts_if_fine : Fine (λ c. false) kernel.body → HasCuts program kernel
  has_cuts_if_fine fine = record {
    crosses = λ at v c cut i live. cut_crosses kernel.body fine at cut v c i
        (place_live kernel.body at (at_place kernel.body at []) c live);
    meet = λ at v w c d cut i j differ a b disjoint.
        meets (after_at kernel.body at) (lines_at kernel.body at) (fine_at kernel.body fine at) v w c d i j
        (place_live kernel.body at (at_place kernel.body at []) c a)
        (place_live kernel.body at (at_place kernel.body at []) d b) disjoint;
  }
