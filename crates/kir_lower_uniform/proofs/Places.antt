-- Two items of one group that go together through the text of a kernel have equal values of the cells wherever both
-- stand: the kernel is even in them.
use Rattle.std.proofs.Common.{ℕ, zero, suc, pos, List, [], ◌∷◌, refl, sym, subst, inl, inr}
use Rattle.std.specs.Prelude.{Bool as Test, true, false}
use Rattle.kir.specs.declared.line.Atom.{Atom}
use Rattle.kir.specs.Tree.{Lines, NoLine, SetThen, LoadThen, StoreThen, ClearThen, IfThen, LoopThen, BarrierThen}
use Rattle.kir.specs.Tree.{Kernel}
use Rattle.kir.specs.Places.{Behind, IntoChosen, IntoOther, IntoTest, ToAnswer, IntoBody, Place, lines_at, behind}
use Rattle.kir.specs.Places.{chosen_of, other_of, test_of, body_of, answer_of, first_of, others_of}
use Rattle.kir.specs.Live.{live_in}
use Rattle.kir.specs.Uniformity.{IsEven}
use Rattle.kir_uniform.specs.Uniform.{tested}
use Rattle.kir_uniform.specs.Does.{Cells, Who, put, computed, Answers, AtAnswer, Does}
use Rattle.kir_uniform.specs.Path.{Branches, FirstDoes, TestIs, InBody, InTest, InAnswer, Comes, after_at}
use Rattle.kir_uniform.proofs.Alike.{AreFellows}
use Rattle.kir_uniform.proofs.Reached.{who_of, on_way}
use Rattle.kir_uniform.proofs.UniformCells.{fellows, comes_there, at_place, place_live}
use Rattle.kir_lower_uniform.specs.Together.{Equal, Anything, Together}

module _ (Even : ℕ → Type 0) (one other : Who) where
  -- what is live before the lines is equal
  pub equal_before : (out : ℕ → Test) (lines : Lines) (Q : Cells → Cells → Type 0) (f g : Cells) →
      Together Even one other out lines Q f g → Equal Even (λ c. live_in c lines (out c)) f g
  equal_before out NoLine Q f g t = t.0
  equal_before out (SetThen to work rest) Q f g t = t.0
  equal_before out (LoadThen site to element root index rest) Q f g t = t.0
  equal_before out (StoreThen site element root index from rest) Q f g t = t.0
  equal_before out (ClearThen array rest) Q f g t = t.0
  equal_before out (IfThen site test chosen others rest) Q f g t = t.0
  equal_before out (LoopThen site first test answer body rest) Q f g t = t.0
  equal_before out (BarrierThen site rest) Q f g t = t.0

  -- where both have done a branch of an if
  branch_ends : (test : Atom) (chosen others : Lines) (f g m n : Cells) (R : Cells → Cells → Type 0)
      → (Answers f test false → Does one chosen f m → Answers g test false → Does other chosen g n → R m n) →
      (Answers f test true → Does one others f m → Answers g test true → Does other others g n → R m n)
      → (Answers f test false → Does one chosen f m → Answers g test true → Does other others g n → R m n) →
      (Answers f test true → Does one others f m → Answers g test false → Does other chosen g n → R m n)
      → Branches one test chosen others f m → Branches other test chosen others g n → R m n
  branch_ends test chosen others f g m n R cc_ oo co oc (inl x) (inl y) = cc_ x.0 x.1 y.0 y.1
  branch_ends test chosen others f g m n R cc_ oo co oc (inl x) (inr y) = co x.0 x.1 y.0 y.1
  branch_ends test chosen others f g m n R cc_ oo co oc (inr x) (inl y) = oc x.0 x.1 y.0 y.1
  branch_ends test chosen others f g m n R cc_ oo co oc (inr x) (inr y) = oo x.0 x.1 y.0 y.1

  -- where both have done the lines, the relation holds
  pub together_ends : (out : ℕ → Test) (lines : Lines) (Q : Cells → Cells → Type 0) (f g m n : Cells) →
      Together Even one other out lines Q f g → Does one lines f m → Does other lines g n → Equal Even out m n × Q m n
  together_ends out NoLine Q f g m n t d e =
      subst (λ z. Equal Even out m z × Q m z) (sym e) (subst (λ z. Equal Even out z g × Q z g) (sym d) t)
  together_ends out (SetThen to work rest) Q f g m n t d e = together_ends out rest Q _ _ m n t.1 d e
  together_ends out (LoadThen site to element root index rest) Q f g m n t d e =
      together_ends out rest Q _ _ m n (t.1 d.0 e.0 d.1 e.1) d.2 e.2
  together_ends out (StoreThen site element root index from rest) Q f g m n t d e =
      together_ends out rest Q f g m n t.1 d e
  together_ends out (ClearThen array rest) Q f g m n t d e = together_ends out rest Q f g m n t.1 d e
  together_ends out (IfThen site test chosen others rest) Q f g m n t d e =
      together_ends out rest Q d.0 e.0 m n
      (branch_ends test chosen others f g d.0 e.0 (λ a b. Together Even one other out rest Q a b)
      (λ x y u v. (together_ends (λ c. live_in c rest (out c)) chosen (λ a b. Together Even one other out rest Q a b)
      f g d.0 e.0 (t.1 x u) y v).1)
      (λ x y u v. (together_ends (λ c. live_in c rest (out c)) others (λ a b. Together Even one other out rest Q a b)
      f g d.0 e.0 (t.2 x u) y v).1)
      (λ x y u v. t.3 d.0 e.0 x y u v) (λ x y u v. t.4 d.0 e.0 x y u v) d.1 e.1) d.2 e.2
  together_ends out (LoopThen site first test answer body rest) Q f g m n t d e =
      together_ends out rest Q d.0 e.0 m n (t.3 d.0 e.0 d.1 e.1) d.2 e.2
  together_ends out (BarrierThen site rest) Q f g m n t d e = together_ends out rest Q f g m n t.1 d e

  -- what follows from the relation, where both have done the lines, holds too
  pub together_then : (out : ℕ → Test) (lines : Lines) (Q R : Cells → Cells → Type 0) (f g : Cells) →
      Together Even one other out lines Q f g
      → ((m n : Cells) → Does one lines f m → Does other lines g n → Equal Even out m n → Q m n → R m n) →
      Together Even one other out lines R f g
  together_then out NoLine Q R f g t h = (t.0, h f g refl refl t.0 t.1)
  together_then out (SetThen to work rest) Q R f g t h =
      (t.0, together_then out rest Q R _ _ t.1 (λ m n d e. h m n d e))
  together_then out (LoadThen site to element root index rest) Q R f g t h =
      (t.0, λ v w x y. together_then out rest Q R _ _ (t.1 v w x y) (λ m n d e. h m n (v, x, d) (w, y, e)))
  together_then out (StoreThen site element root index from rest) Q R f g t h =
      (t.0, together_then out rest Q R f g t.1 (λ m n d e. h m n d e))
  together_then out (ClearThen array rest) Q R f g t h =
      (t.0, together_then out rest Q R f g t.1 (λ m n d e. h m n d e))
  together_then out (IfThen site test chosen others rest) Q R f g t h = (
    t.0,
    λ x y. together_then (λ c. live_in c rest (out c)) chosen (λ a b. Together Even one other out rest Q a b)
        (λ a b. Together Even one other out rest R a b) f g (t.1 x y)
        (λ a b d e q z. together_then out rest Q R a b z (λ m n d' e'. h m n (a, inl (x, d), d') (b, inl (y, e), e'))),
    λ x y. together_then (λ c. live_in c rest (out c)) others (λ a b. Together Even one other out rest Q a b)
        (λ a b. Together Even one other out rest R a b) f g (t.2 x y)
        (λ a b d e q z. together_then out rest Q R a b z (λ m n d' e'. h m n (a, inr (x, d), d') (b, inr (y, e), e'))),
    λ a b x d y e. together_then out rest Q R a b (t.3 a b x d y e) (λ m n d' e'. h m n (a, inl (x, d), d') (
      b,
      inr (y, e),
      e',
    )),
    λ a b x d y e. together_then out rest Q R a b (t.4 a b x d y e) (λ m n d' e'. h m n (a, inr (x, d), d') (
      b,
      inl (y, e),
      e',
    )),
  )
  together_then out (LoopThen site first test answer body rest) Q R f g t h = (
    t.0,
    t.1,
    t.2,
    λ a b x y. together_then out rest Q R a b (t.3 a b x y) (λ m n d' e'. h m n (a, x, d') (
      b,
      y,
      e',
    )),
  )
  together_then out (BarrierThen site rest) Q R f g t h =
      (t.0, together_then out rest Q R f g t.1 (λ m n d e. h m n d e))

  -- ---- places

  abbrev Go : (ℕ → Test) → Lines → Cells → Cells → Type 0
  Go out lines f g = Together Even one other out lines Anything f g

  go_behind : (out : ℕ → Test) (lines : Lines) (f g f' g' : Cells) → Go out lines f g → FirstDoes one lines f f' →
      FirstDoes other lines g g' → Go out (behind lines) f' g'
  go_behind out NoLine f g f' g' t x y = absurd x
  go_behind out (SetThen to work rest) f g f' g' t x y =
      subst (λ z. Go out rest f' z) (sym y) (subst (λ z. Go out rest z (put g to (computed other g work))) (sym x) t.1)
  go_behind out (LoadThen site to element root index rest) f g f' g' t x y =
      subst (λ z. Go out rest f' z) (sym y.2) (subst (λ z. Go out rest z (put g to y.0)) (sym x.2)
      (t.1 x.0 y.0 x.1 y.1))
  go_behind out (StoreThen site element root index from rest) f g f' g' t x y =
      subst (λ z. Go out rest f' z) (sym y) (subst (λ z. Go out rest z g) (sym x) t.1)
  go_behind out (ClearThen array rest) f g f' g' t x y =
      subst (λ z. Go out rest f' z) (sym y) (subst (λ z. Go out rest z g) (sym x) t.1)
  go_behind out (IfThen site test chosen others rest) f g f' g' t (inl x) (inl y) =
      (together_ends (λ c. live_in c rest (out c)) chosen (λ a b. Go out rest a b) f g f' g' (t.1 x.0 y.0) x.1 y.1).1
  go_behind out (IfThen site test chosen others rest) f g f' g' t (inl x) (inr y) = t.3 f' g' x.0 x.1 y.0 y.1
  go_behind out (IfThen site test chosen others rest) f g f' g' t (inr x) (inl y) = t.4 f' g' x.0 x.1 y.0 y.1
  go_behind out (IfThen site test chosen others rest) f g f' g' t (inr x) (inr y) =
      (together_ends (λ c. live_in c rest (out c)) others (λ a b. Go out rest a b) f g f' g' (t.2 x.0 y.0) x.1 y.1).1
  go_behind out (LoopThen site first test answer body rest) f g f' g' t x y = t.3 f' g' x y
  go_behind out (BarrierThen site rest) f g f' g' t x y =
      subst (λ z. Go out rest f' z) (sym y) (subst (λ z. Go out rest z g) (sym x) t.1)

  go_chosen : (out : ℕ → Test) (lines : Lines) (f g : Cells) → Go out lines f g → TestIs lines false f →
      TestIs lines false g → Go (λ c. live_in c (behind lines) (out c)) (chosen_of lines) f g
  go_chosen out (IfThen site test chosen others rest) f g t x y =
      together_then _ chosen (λ a b. Go out rest a b) Anything f g (t.1 x y) (λ m n d e q z. tt)
  go_chosen out NoLine f g t x y = absurd x
  go_chosen out (SetThen to work rest) f g t x y = absurd x
  go_chosen out (LoadThen site to element root index rest) f g t x y = absurd x
  go_chosen out (StoreThen site element root index from rest) f g t x y = absurd x
  go_chosen out (ClearThen array rest) f g t x y = absurd x
  go_chosen out (LoopThen site first test answer body rest) f g t x y = absurd x
  go_chosen out (BarrierThen site rest) f g t x y = absurd x

  go_other : (out : ℕ → Test) (lines : Lines) (f g : Cells) → Go out lines f g → TestIs lines true f →
      TestIs lines true g → Go (λ c. live_in c (behind lines) (out c)) (other_of lines) f g
  go_other out (IfThen site test chosen others rest) f g t x y =
      together_then _ others (λ a b. Go out rest a b) Anything f g (t.2 x y) (λ m n d e q z. tt)
  go_other out NoLine f g t x y = absurd x
  go_other out (SetThen to work rest) f g t x y = absurd x
  go_other out (LoadThen site to element root index rest) f g t x y = absurd x
  go_other out (StoreThen site element root index from rest) f g t x y = absurd x
  go_other out (ClearThen array rest) f g t x y = absurd x
  go_other out (LoopThen site first test answer body rest) f g t x y = absurd x
  go_other out (BarrierThen site rest) f g t x y = absurd x

  go_test : (out : ℕ → Test) (lines : Lines) (n : ℕ) (f g f' g' : Cells) → Go out lines f g →
      InTest one lines n f f' → InTest other lines n g g'
      → Go (tested (test_of lines) (answer_of lines) (body_of lines) (λ d. live_in d (behind lines) (out d)))
      (test_of lines) f' g'
  go_test out (LoopThen site first test answer body rest) n f g f' g' t x y = t.1 n f' g' x y
  go_test out NoLine n f g f' g' t x y = absurd x
  go_test out (SetThen to work rest) n f g f' g' t x y = absurd x
  go_test out (LoadThen site to element root index rest) n f g f' g' t x y = absurd x
  go_test out (StoreThen site element root index from rest) n f g f' g' t x y = absurd x
  go_test out (ClearThen array rest) n f g f' g' t x y = absurd x
  go_test out (IfThen site test chosen others rest) n f g f' g' t x y = absurd x
  go_test out (BarrierThen site rest) n f g f' g' t x y = absurd x

  go_body : (out : ℕ → Test) (lines : Lines) (n : ℕ) (f g f' g' : Cells) → Go out lines f g →
      InBody one lines n f f' → InBody other lines n g g'
      → Go (λ c. live_in c (test_of lines) (tested (test_of lines) (answer_of lines) (body_of lines)
      (λ d. live_in d (behind lines) (out d)) c)) (body_of lines) f' g'
  go_body out (LoopThen site first test answer body rest) n f g f' g' t x y = t.2 n f' g' x y
  go_body out NoLine n f g f' g' t x y = absurd x
  go_body out (SetThen to work rest) n f g f' g' t x y = absurd x
  go_body out (LoadThen site to element root index rest) n f g f' g' t x y = absurd x
  go_body out (StoreThen site element root index from rest) n f g f' g' t x y = absurd x
  go_body out (ClearThen array rest) n f g f' g' t x y = absurd x
  go_body out (IfThen site test chosen others rest) n f g f' g' t x y = absurd x
  go_body out (BarrierThen site rest) n f g f' g' t x y = absurd x

  -- to come to the answer is to come to the test and to do it
  pub through_test : (who : Who) (site : ℕ) (first : Test) (test : Lines) (answer : Atom) (body rest : Lines) (n : ℕ)
      (f g : Cells) → AtAnswer first (Does who test) (Does who body) answer n f g
      → (m : Cells) × InTest who (LoopThen site first test answer body rest) n f m × Does who test m g
  through_test who site true test answer body rest zero f g h = (f, refl, h)
  through_test who site false test answer body rest zero f g h = absurd h
  through_test who site true test answer body rest (suc n) f g h = (h.2.0, (h.0, h.1, h.2.1), h.2.2)
  through_test who site false test answer body rest (suc n) f g h = (h.2.0, (h.0, h.1, h.2.1), h.2.2)

  go_answer : (out : ℕ → Test) (lines : Lines) (n : ℕ) (f g f' g' : Cells) → Go out lines f g →
      InAnswer one lines n f f' → InAnswer other lines n g g'
      → Equal Even (tested (test_of lines) (answer_of lines) (body_of lines) (λ d. live_in d (behind lines) (out d)))
      f' g'
  go_answer out (LoopThen site first test answer body rest) n f g f' g' t x y =
      let a = through_test one site first test answer body rest n f f' x in
      let b = through_test other site first test answer body rest n g g' y in
      (together_ends _ test Anything a.0 b.0 f' g' (t.1 n a.0 b.0 a.1 b.1) a.2 b.2).0
  go_answer out NoLine n f g f' g' t x y = absurd x
  go_answer out (SetThen to work rest) n f g f' g' t x y = absurd x
  go_answer out (LoadThen site to element root index rest) n f g f' g' t x y = absurd x
  go_answer out (StoreThen site element root index from rest) n f g f' g' t x y = absurd x
  go_answer out (ClearThen array rest) n f g f' g' t x y = absurd x
  go_answer out (IfThen site test chosen others rest) n f g f' g' t x y = absurd x
  go_answer out (BarrierThen site rest) n f g f' g' t x y = absurd x

  -- both stand at a place, with equal numbers of iterations begun
  module _ (text : Lines) (start : Cells) (go : Go (λ c. false) text start start) where
    go_at : (at : Place) (begun : List ℕ) (f g : Cells) → Comes one text start at begun f →
        Comes other text start at begun g → Go (after_at text at) (lines_at text at) f g
    go_at [] begun f g x y =
        subst (λ z. Go (λ c. false) text f z) (sym y) (subst (λ z. Go (λ c. false) text z start) (sym x) go)
    go_at (Behind ∷ at) begun f g x y =
        go_behind (after_at text at) (lines_at text at) x.0 y.0 f g (go_at at begun x.0 y.0 x.1 y.1) x.2 y.2
    go_at (IntoChosen ∷ at) begun f g x y =
        go_chosen (after_at text at) (lines_at text at) f g (go_at at begun f g x.0 y.0) x.1 y.1
    go_at (IntoOther ∷ at) begun f g x y =
        go_other (after_at text at) (lines_at text at) f g (go_at at begun f g x.0 y.0) x.1 y.1
    go_at (IntoTest ∷ at) begun f g x y =
        go_test (after_at text at) (lines_at text at) (first_of begun) x.0 y.0 f g
        (go_at at (others_of begun) x.0 y.0 x.1 y.1) x.2 y.2
    go_at (ToAnswer ∷ at) begun f g x y = (
      go_answer (after_at text at) (lines_at text at) (first_of begun) x.0 y.0 f g
          (go_at at (others_of begun) x.0 y.0 x.1 y.1) x.2 y.2,
      tt,
    )
    go_at (IntoBody ∷ at) begun f g x y =
        go_body (after_at text at) (lines_at text at) (first_of begun) x.0 y.0 f g
        (go_at at (others_of begun) x.0 y.0 x.1 y.1) x.2 y.2

-- a kernel is even in the cells where each two items of one group go together
pub even_if_together : (kernel : Kernel) (Even : ℕ → Type 0) → ((one other : Who) → AreFellows kernel one other →
    Together Even one other (λ c. false) kernel.body Anything (λ c. pos 0) (λ c. pos 0)) → IsEven kernel Even
even_if_together kernel Even go launch fits buffers fit one other lt lt' same deeds deeds' i j hi hj point pi pj stop
    c e live =
    let a = who_of kernel launch buffers one in
    let b = who_of kernel launch buffers other in
    equal_before Even a b (after_at kernel.body point.at) (lines_at kernel.body point.at) Anything i.cells j.cells
    (go_at Even a b kernel.body (λ d. pos 0) (go a b (fellows kernel launch fits buffers one other same)) point.at
    point.begun i.cells j.cells
    (comes_there kernel launch buffers one i.tasks i.cells (on_way kernel launch buffers one deeds i hi) point pi)
    (comes_there kernel launch buffers other j.tasks j.cells (on_way kernel launch buffers other deeds' j hj)
    point pj))
    c e (place_live kernel.body point.at (at_place kernel.body point.at []) c live)
