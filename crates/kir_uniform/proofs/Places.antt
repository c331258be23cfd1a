-- At one place, with equal numbers of iterations begun, two items of one group are alike on what is live there.
use Rattle.std.proofs.Common.{ℕ, zero, suc, List, [], ◌∷◌, sym, ap, ◌∙◌, subst}
use Rattle.std.specs.Prelude.{◌||◌, ◌&&◌, not, nat_eq}
use Rattle.std.specs.Prelude.{Bool as Test, true, false}
use Rattle.std.proofs.lemmas.Bool.{or_left, or_right}
use Rattle.kir.specs.declared.line.Atom.{Atom}
use Rattle.kir.specs.Tree.{Lines, NoLine, SetThen, LoadThen, StoreThen, ClearThen, IfThen, LoopThen, BarrierThen}
use Rattle.kir.specs.Tree.{Kernel}
use Rattle.kir.specs.Places.{Behind, IntoChosen, IntoOther, IntoTest, ToAnswer, IntoBody, Place, lines_at, behind}
use Rattle.kir.specs.Places.{chosen_of, other_of, test_of, body_of, answer_of, first_of, others_of}
use Rattle.kir.specs.Live.{reads, work_reads, live_in}
use Rattle.kir.specs.Steps.{atom_value}
use Rattle.kir_uniform.specs.Uniform.{tested, IsSteady}
use Rattle.kir_uniform.specs.Does.{Cells, Who, computed}
use Rattle.kir_uniform.specs.Path.{FirstDoes, TestIs, InBody, InTest, InAnswer, Comes, after_at}
use Rattle.kir_uniform.proofs.Alike.{AreFellows, Alike, does_alike, set_alike, value_alike, computed_alike}
use Rattle.kir_uniform.proofs.Alike.{branches_alike, loop_alike, before_loop, at_alike, enters_alike}

module _ (kernel : Kernel) (even : ℕ → Test) where
  -- the lines at a place are steady, where all are
  steady_at : IsSteady kernel even (λ c. false) kernel.body → (at : Place) →
      IsSteady kernel even (after_at kernel.body at) (lines_at kernel.body at)
  steady_at st [] = st
  steady_at st (Behind ∷ at) = by (lines_at kernel.body at) (after_at kernel.body at) (steady_at st at)
    where
      by : (lines : Lines) (out : ℕ → Test) → IsSteady kernel even out lines → IsSteady kernel even out (behind lines)
      by NoLine out s = s
      by (SetThen to work rest) out s = s.1
      by (LoadThen site to element root index rest) out s = s.1
      by (StoreThen site element root index from rest) out s = s
      by (ClearThen array rest) out s = s
      by (IfThen site test chosen other rest) out s = s.3
      by (LoopThen site first test answer body rest) out s = s.3
      by (BarrierThen site rest) out s = s
  steady_at st (IntoChosen ∷ at) = by (lines_at kernel.body at) (after_at kernel.body at) (steady_at st at)
    where
      by : (lines : Lines) (out : ℕ → Test) → IsSteady kernel even out lines →
          IsSteady kernel even (λ c. live_in c (behind lines) (out c)) (chosen_of lines)
      by NoLine out s = tt
      by (SetThen to work rest) out s = tt
      by (LoadThen site to element root index rest) out s = tt
      by (StoreThen site element root index from rest) out s = tt
      by (ClearThen array rest) out s = tt
      by (IfThen site test chosen other rest) out s = s.1
      by (LoopThen site first test answer body rest) out s = tt
      by (BarrierThen site rest) out s = tt
  steady_at st (IntoOther ∷ at) = by (lines_at kernel.body at) (after_at kernel.body at) (steady_at st at)
    where
      by : (lines : Lines) (out : ℕ → Test) → IsSteady kernel even out lines →
          IsSteady kernel even (λ c. live_in c (behind lines) (out c)) (other_of lines)
      by NoLine out s = tt
      by (SetThen to work rest) out s = tt
      by (LoadThen site to element root index rest) out s = tt
      by (StoreThen site element root index from rest) out s = tt
      by (ClearThen array rest) out s = tt
      by (IfThen site test chosen other rest) out s = s.2
      by (LoopThen site first test answer body rest) out s = tt
      by (BarrierThen site rest) out s = tt
  steady_at st (IntoTest ∷ at) = by (lines_at kernel.body at) (after_at kernel.body at) (steady_at st at)
    where
      by : (lines : Lines) (out : ℕ → Test) → IsSteady kernel even out lines →
          IsSteady kernel even (tested (test_of lines) (answer_of lines) (body_of lines)
          (λ d. live_in d (behind lines) (out d))) (test_of lines)
      by NoLine out s = tt
      by (SetThen to work rest) out s = tt
      by (LoadThen site to element root index rest) out s = tt
      by (StoreThen site element root index from rest) out s = tt
      by (ClearThen array rest) out s = tt
      by (IfThen site test chosen other rest) out s = tt
      by (LoopThen site first test answer body rest) out s = s.1
      by (BarrierThen site rest) out s = tt
  steady_at st (ToAnswer ∷ at) = tt
  steady_at st (IntoBody ∷ at) = by (lines_at kernel.body at) (after_at kernel.body at) (steady_at st at)
    where
      by : (lines : Lines) (out : ℕ → Test) → IsSteady kernel even out lines →
          IsSteady kernel even (λ c. live_in c (test_of lines)
          (tested (test_of lines) (answer_of lines) (body_of lines) (λ d. live_in d (behind lines) (out d)) c))
          (body_of lines)
      by NoLine out s = tt
      by (SetThen to work rest) out s = tt
      by (LoadThen site to element root index rest) out s = tt
      by (StoreThen site element root index from rest) out s = tt
      by (ClearThen array rest) out s = tt
      by (IfThen site test chosen other rest) out s = tt
      by (LoopThen site first test answer body rest) out s = s.2
      by (BarrierThen site rest) out s = tt

  module _ (one other : Who) (fellows : AreFellows kernel one other) where
    abbrev Same : (ℕ → Test) → Cells → Cells → Type 0
    Same live f g = Alike kernel even one other fellows live f g

    abbrev Before : Lines → (ℕ → Test) → ℕ → Test
    Before lines out c = live_in c lines (out c)

    -- behind the first line
    first_alike : (lines : Lines) (out : ℕ → Test) → IsSteady kernel even out lines → (f g f' g' : Cells) →
        Same (Before lines out) f g → FirstDoes one lines f f' → FirstDoes other lines g g' →
        Same (Before (behind lines) out) f' g'
    first_alike NoLine out st f g f' g' al x y = absurd x
    first_alike (SetThen to work rest) out st f g f' g' al x y = λ c e l.
        ap (λ z. z c) x
        ∙ (set_alike kernel even one other fellows to rest out (λ d. work_reads d work) f g (computed one f work)
        (computed other g work)
        (λ ev lv. computed_alike kernel even one other fellows work (Before (SetThen to work rest) out) f g
        (st.0 lv ev) (λ d r. or_left (work_reads d work) (not (nat_eq d to) && live_in d rest (out d)) r) al) al
        c e l
        ∙ sym (ap (λ z. z c) y))
    first_alike (LoadThen site to element root index rest) out st f g f' g' al x y = λ c e l.
        ap (λ z. z c) x.2
        ∙ (set_alike kernel even one other fellows to rest out (λ d. reads d index) f g x.0 y.0
        (λ ev lv. let s = st.0 lv ev in
        let i = value_alike kernel even one other fellows index (Before (LoadThen site to element root index rest)
        out) f g s.1 (λ d r. or_left (reads d index) (not (nat_eq d to) && live_in d rest (out d)) r) al in
        fellows.constants element root (atom_value g index) x.0 y.0 s.0
        (subst (λ n. one.gives element root n x.0) i x.1) y.1) al c e l
        ∙ sym (ap (λ z. z c) y.2))
    first_alike (StoreThen site element root index from rest) out st f g f' g' al x y = λ c e l. ap (λ z. z c) x ∙
        (al c e (or_right (reads c index || reads c from) (live_in c rest (out c)) l) ∙ sym (ap (λ z. z c) y))
    first_alike (ClearThen array rest) out st f g f' g' al x y =
        λ c e l. ap (λ z. z c) x ∙ (al c e l ∙ sym (ap (λ z. z c) y))
    first_alike (IfThen site test chosen others rest) out st f g f' g' al x y =
        branches_alike kernel even one other fellows test chosen others (Before rest out) f g f' g' st.0 (λ m n a d e.
        does_alike kernel even one other fellows chosen (Before rest out) st.1 f g m n a d e)
        (λ m n a d e. does_alike kernel even one other fellows others (Before rest out) st.2 f g m n a d e) al x y
    first_alike (LoopThen site true test answer body rest) out st f g f' g' al x y =
        loop_alike kernel even one other fellows true test answer body (Before rest out) st.0 (λ a b a' b' l d e.
        does_alike kernel even one other fellows test (tested test answer body (Before rest out)) st.1 a b a' b'
        l d e)
        (λ a b a' b' l d e. does_alike kernel even one other fellows body
        (λ c. live_in c test (tested test answer body (Before rest out) c)) st.2 a b a' b' l d e) f g f' g' al
        x.0 y.0 x.1 x.2 y.1 y.2
    first_alike (LoopThen site false test answer body rest) out st f g f' g' al x y =
        loop_alike kernel even one other fellows false test answer body (Before rest out) st.0 (λ a b a' b' l d e.
        does_alike kernel even one other fellows test (tested test answer body (Before rest out)) st.1 a b a' b'
        l d e)
        (λ a b a' b' l d e. does_alike kernel even one other fellows body
        (λ c. live_in c test (tested test answer body (Before rest out) c)) st.2 a b a' b' l d e) f g f' g' al
        x.0 y.0 x.1 x.2 y.1 y.2
    first_alike (BarrierThen site rest) out st f g f' g' al x y =
        λ c e l. ap (λ z. z c) x ∙ (al c e l ∙ sym (ap (λ z. z c) y))

    chosen_alike : (lines : Lines) (out : ℕ → Test) (f g : Cells) → Same (Before lines out) f g →
        TestIs lines false f → Same (λ c. live_in c (chosen_of lines) (live_in c (behind lines) (out c))) f g
    chosen_alike (IfThen site test chosen others rest) out f g al t =
        λ c e l. al c e (or_right (reads c test) (live_in c chosen (live_in c rest (out c)) ||
        live_in c others (live_in c rest (out c))) (or_left (live_in c chosen (live_in c rest (out c)))
        (live_in c others (live_in c rest (out c))) l))
    chosen_alike NoLine out f g al t = absurd t
    chosen_alike (SetThen to work rest) out f g al t = absurd t
    chosen_alike (LoadThen site to element root index rest) out f g al t = absurd t
    chosen_alike (StoreThen site element root index from rest) out f g al t = absurd t
    chosen_alike (ClearThen array rest) out f g al t = absurd t
    chosen_alike (LoopThen site first test answer body rest) out f g al t = absurd t
    chosen_alike (BarrierThen site rest) out f g al t = absurd t

    other_alike : (lines : Lines) (out : ℕ → Test) (f g : Cells) → Same (Before lines out) f g → TestIs lines true f →
        Same (λ c. live_in c (other_of lines) (live_in c (behind lines) (out c))) f g
    other_alike (IfThen site test chosen others rest) out f g al t =
        λ c e l. al c e (or_right (reads c test) (live_in c chosen (live_in c rest (out c)) ||
        live_in c others (live_in c rest (out c))) (or_right (live_in c chosen (live_in c rest (out c)))
        (live_in c others (live_in c rest (out c))) l))
    other_alike NoLine out f g al t = absurd t
    other_alike (SetThen to work rest) out f g al t = absurd t
    other_alike (LoadThen site to element root index rest) out f g al t = absurd t
    other_alike (StoreThen site element root index from rest) out f g al t = absurd t
    other_alike (ClearThen array rest) out f g al t = absurd t
    other_alike (LoopThen site first test answer body rest) out f g al t = absurd t
    other_alike (BarrierThen site rest) out f g al t = absurd t

    -- what is live before a loop, whichever kind it is
    loop_before : (site : ℕ) (first : Test) (test : Lines) (answer : Atom) (body rest : Lines) (out : ℕ →
        Test) (f g : Cells) → Same (Before (LoopThen site first test answer body rest) out) f g →
        Same (before_loop kernel even one other fellows first test answer body (Before rest out)) f g
    loop_before site true test answer body rest out f g al = al
    loop_before site false test answer body rest out f g al = al

    -- in the parts of a loop, and at its answer
    body_alike : (lines : Lines) (out : ℕ → Test) → IsSteady kernel even out lines → (n : ℕ) (f g f' g' : Cells) →
        Same (Before lines out) f g → InBody one lines n f f' → InBody other lines n g g'
        → Same (λ c. live_in c (body_of lines)
        (live_in c (test_of lines) (tested (test_of lines) (answer_of lines) (body_of lines)
        (λ d. live_in d (behind lines) (out d)) c))) f' g'
    body_alike (LoopThen site first test answer body rest) out st zero f g f' g' al x y = absurd x
    body_alike (LoopThen site first test answer body rest) out st (suc n) f g f' g' al x y =
        enters_alike kernel even one other fellows test answer body (Before rest out) (λ a b a' b' l d e.
        does_alike kernel even one other fellows test (tested test answer body (Before rest out)) st.1 a b a' b'
        l d e)
        (λ a b a' b' l d e. does_alike kernel even one other fellows body
        (λ c. live_in c test (tested test answer body (Before rest out) c)) st.2 a b a' b' l d e) first n f g f'
        g' (loop_before site first test answer body rest out f g al) x y
    body_alike NoLine out st n f g f' g' al x y = absurd x
    body_alike (SetThen to work rest) out st n f g f' g' al x y = absurd x
    body_alike (LoadThen site to element root index rest) out st n f g f' g' al x y = absurd x
    body_alike (StoreThen site element root index from rest) out st n f g f' g' al x y = absurd x
    body_alike (ClearThen array rest) out st n f g f' g' al x y = absurd x
    body_alike (IfThen site test chosen others rest) out st n f g f' g' al x y = absurd x
    body_alike (BarrierThen site rest) out st n f g f' g' al x y = absurd x

    test_alike : (lines : Lines) (out : ℕ → Test) → IsSteady kernel even out lines → (n : ℕ) (f g f' g' : Cells) →
        Same (Before lines out) f g → InTest one lines n f f' → InTest other lines n g g'
        → Same (λ c. live_in c (test_of lines) (tested (test_of lines) (answer_of lines) (body_of lines)
        (λ d. live_in d (behind lines) (out d)) c)) f' g'
    test_alike (LoopThen site true test answer body rest) out st zero f g f' g' al x y =
        λ c e l. ap (λ z. z c) x ∙ (al c e l ∙ sym (ap (λ z. z c) y))
    test_alike (LoopThen site false test answer body rest) out st zero f g f' g' al x y = absurd x
    test_alike (LoopThen site true test answer body rest) out st (suc n) f g f' g' al x y =
        does_alike kernel even one other fellows body
        (λ c. live_in c test (tested test answer body (Before rest out) c)) st.2 x.0 y.0 f' g'
        (enters_alike kernel even one other fellows test answer body (Before rest out) (λ a b a' b' l d e.
        does_alike kernel even one other fellows test (tested test answer body (Before rest out)) st.1 a b a'
        b' l d e)
        (λ a b a' b' l d e. does_alike kernel even one other fellows body
        (λ c. live_in c test (tested test answer body (Before rest out) c)) st.2 a b a' b' l d e) true n f g x.0
        y.0 al x.1 y.1) x.2 y.2
    test_alike (LoopThen site false test answer body rest) out st (suc n) f g f' g' al x y =
        does_alike kernel even one other fellows body
        (λ c. live_in c test (tested test answer body (Before rest out) c)) st.2 x.0 y.0 f' g'
        (enters_alike kernel even one other fellows test answer body (Before rest out) (λ a b a' b' l d e.
        does_alike kernel even one other fellows test (tested test answer body (Before rest out)) st.1 a b a'
        b' l d e)
        (λ a b a' b' l d e. does_alike kernel even one other fellows body
        (λ c. live_in c test (tested test answer body (Before rest out) c)) st.2 a b a' b' l d e) false n f g
        x.0 y.0 al x.1 y.1) x.2 y.2
    test_alike NoLine out st n f g f' g' al x y = absurd x
    test_alike (SetThen to work rest) out st n f g f' g' al x y = absurd x
    test_alike (LoadThen site to element root index rest) out st n f g f' g' al x y = absurd x
    test_alike (StoreThen site element root index from rest) out st n f g f' g' al x y = absurd x
    test_alike (ClearThen array rest) out st n f g f' g' al x y = absurd x
    test_alike (IfThen site test chosen others rest) out st n f g f' g' al x y = absurd x
    test_alike (BarrierThen site rest) out st n f g f' g' al x y = absurd x

    answer_place_alike : (lines : Lines) (out : ℕ → Test) → IsSteady kernel even out lines →
        (n : ℕ) (f g f' g' : Cells) → Same (Before lines out) f g → InAnswer one lines n f f' →
        InAnswer other lines n g g'
        → Same (tested (test_of lines) (answer_of lines) (body_of lines) (λ d. live_in d (behind lines) (out d))) f' g'
    answer_place_alike (LoopThen site first test answer body rest) out st n f g f' g' al x y =
        at_alike kernel even one other fellows test answer body (Before rest out) (λ a b a' b' l d e.
        does_alike kernel even one other fellows test (tested test answer body (Before rest out)) st.1 a b a' b'
        l d e)
        (λ a b a' b' l d e. does_alike kernel even one other fellows body
        (λ c. live_in c test (tested test answer body (Before rest out) c)) st.2 a b a' b' l d e) first n f g f'
        g' (loop_before site first test answer body rest out f g al) x y
    answer_place_alike NoLine out st n f g f' g' al x y = absurd x
    answer_place_alike (SetThen to work rest) out st n f g f' g' al x y = absurd x
    answer_place_alike (LoadThen site to element root index rest) out st n f g f' g' al x y = absurd x
    answer_place_alike (StoreThen site element root index from rest) out st n f g f' g' al x y = absurd x
    answer_place_alike (ClearThen array rest) out st n f g f' g' al x y = absurd x
    answer_place_alike (IfThen site test chosen others rest) out st n f g f' g' al x y = absurd x
    answer_place_alike (BarrierThen site rest) out st n f g f' g' al x y = absurd x

    -- ---- places

    -- at a place they are alike on what is live before its lines; at a loop's answer, on what is live at the answer
    pub places_alike : IsSteady kernel even (λ c. false) kernel.body →
        (start : Cells) (at : Place) (begun : List ℕ) (f g : Cells) → Comes one kernel.body start at begun f →
        Comes other kernel.body start at begun g →
        Same (λ c. live_in c (lines_at kernel.body at) (after_at kernel.body at c)) f g
    places_alike st start [] begun f g x y = λ c e l. ap (λ z. z c) x ∙ sym (ap (λ z. z c) y)
    places_alike st start (Behind ∷ at) begun f g x y =
        first_alike (lines_at kernel.body at) (after_at kernel.body at) (steady_at st at) x.0 y.0 f g
        (places_alike st start at begun x.0 y.0 x.1 y.1) x.2 y.2
    places_alike st start (IntoChosen ∷ at) begun f g x y =
        chosen_alike (lines_at kernel.body at) (after_at kernel.body at) f g
        (places_alike st start at begun f g x.0 y.0) x.1
    places_alike st start (IntoOther ∷ at) begun f g x y =
        other_alike (lines_at kernel.body at) (after_at kernel.body at) f g
        (places_alike st start at begun f g x.0 y.0) x.1
    places_alike st start (IntoTest ∷ at) begun f g x y =
        test_alike (lines_at kernel.body at) (after_at kernel.body at) (steady_at st at) (first_of begun) x.0 y.0 f g
        (places_alike st start at (others_of begun) x.0 y.0 x.1 y.1) x.2 y.2
    places_alike st start (ToAnswer ∷ at) begun f g x y =
        answer_place_alike (lines_at kernel.body at) (after_at kernel.body at) (steady_at st at) (first_of begun) x.0
        y.0 f g (places_alike st start at (others_of begun) x.0 y.0 x.1 y.1) x.2 y.2
    places_alike st start (IntoBody ∷ at) begun f g x y =
        body_alike (lines_at kernel.body at) (after_at kernel.body at) (steady_at st at) (first_of begun) x.0 y.0 f g
        (places_alike st start at (others_of begun) x.0 y.0 x.1 y.1) x.2 y.2
