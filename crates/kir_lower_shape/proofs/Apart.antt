-- The points of barrier lines are told apart part by part.
use Rattle.std.proofs.Common.{◌≡◌, ℕ, zero, suc, ◌+◌, List, [], ◌∷◌, ◌++◌, length, refl, sym, ap, ◌∙◌, subst, arith}
use Rattle.std.proofs.Common.{append_assoc, ◌⊎◌, inl, inr, ⊎_elim, false}
use Rattle.std.specs.Prelude.{◌||◌}
use Rattle.cl_model.specs.Task.{Leg as ProgramLeg, Point as ProgramPoint}
use Rattle.kir.specs.Tree.{Lines, NoLine, SetThen, LoadThen, StoreThen, ClearThen, IfThen, LoopThen, BarrierThen}
use Rattle.kir.specs.Tree.{joined_to}
use Rattle.kir.specs.Places.{Leg, Behind, IntoChosen, IntoOther, IntoTest, IntoBody}
use Rattle.kir.specs.Cuts.{holds_barrier}
use Rattle.kir_lower_shape.specs.Marks.{Way, further, Marks, MarkThen, FormThen, marks_then, marks_behind, marks_one}
use Rattle.kir_lower_shape.specs.Marks.{marks_two, first_way, Shaped, no_line, set_line, load_line, store_line}
use Rattle.kir_lower_shape.specs.Marks.{clear_line, if_line, loop_line, barrier_line}
use Rattle.kir_lower_shape.specs.BarrierPoints.{Spot, at_barrier, past_barrier, past_set, past_load, past_store}
use Rattle.kir_lower_shape.specs.BarrierPoints.{past_clear, past_if, in_chosen, in_other, past_loop, in_test, in_body}
use Rattle.kir_lower_shape.specs.BarrierPoints.{loops_in, behind_first, IsFair, AreTold, IsTold}
use Rattle.kir_lower_shape.proofs.Quiet.{or_parts, true_false}
use Rattle.kir_lower_shape.proofs.Cutless.{Cutless}

-- ---- lines without a barrier have no spot

pub no_spot : (lines : Lines) (marks : Marks) (legs : List Leg) (w : Way) → Spot lines marks legs w →
    holds_barrier lines ≡ false → ⊥
no_spot _ _ _ w at_barrier h = true_false h
no_spot _ _ _ w (past_barrier s) h = true_false h
no_spot _ _ _ w (past_set s) h = no_spot _ _ _ w s h
no_spot _ _ _ w (past_load s) h = no_spot _ _ _ w s h
no_spot _ _ _ w (past_store s) h = no_spot _ _ _ w s h
no_spot _ _ _ w (past_clear s) h = no_spot _ _ _ w s h
no_spot _ _ _ w (past_if {chosen = chosen} {other = other} {rest = rest} s) h =
    no_spot _ _ _ w s (or_parts (holds_barrier other) (holds_barrier rest)
    (or_parts (holds_barrier chosen) (holds_barrier other || holds_barrier rest) h).1).1
no_spot _ _ _ w (in_chosen {chosen = chosen} {other = other} {rest = rest} s) h =
    no_spot _ _ _ w s (or_parts (holds_barrier chosen) (holds_barrier other || holds_barrier rest) h).0
no_spot _ _ _ w (in_other {chosen = chosen} {other = other} {rest = rest} s) h =
    no_spot _ _ _ w s (or_parts (holds_barrier other) (holds_barrier rest)
    (or_parts (holds_barrier chosen) (holds_barrier other || holds_barrier rest) h).1).0
no_spot _ _ _ w (past_loop {test = test} {body = body} {rest = rest} s) h =
    no_spot _ _ _ w s (or_parts (holds_barrier body) (holds_barrier rest)
    (or_parts (holds_barrier test) (holds_barrier body || holds_barrier rest) h).1).1
no_spot _ _ _ w (in_test {test = test} {body = body} {rest = rest} s) h =
    no_spot _ _ _ w s (or_parts (holds_barrier test) (holds_barrier body || holds_barrier rest) h).0
no_spot _ _ _ w (in_body {test = test} {body = body} {rest = rest} s) h =
    no_spot _ _ _ w s (or_parts (holds_barrier body) (holds_barrier rest)
    (or_parts (holds_barrier test) (holds_barrier body || holds_barrier rest) h).1).0

pub told_cutless : (way : Way) (d : ℕ) (Own : ProgramLeg → Type 0) (lines : Lines) (marks : Marks) → Cutless lines →
    AreTold way d Own lines marks
told_cutless way d Own lines marks h = record {
  under = λ legs w s begun e. absurd (no_spot lines marks legs w s h.is);
  one = λ legs legs' w w' s s' begun begun' e e' k. absurd (no_spot lines marks legs w s h.is);
}

-- ---- ways

pub fair_further : (way : Way) (d : ℕ) (leg : ProgramLeg) → IsFair way d → IsFair (further way leg) d
fair_further way d leg fair begun begun' xs ys e e' k =
    let p = fair begun begun' (leg ∷ xs) (leg ∷ ys) e e' (sym (append_assoc (way begun) (leg ∷ []) xs) ∙ k ∙
    append_assoc (way begun') (leg ∷ []) ys) in
    (p.0, ap tail_of p.1)
  where
    tail_of : ProgramPoint → ProgramPoint
    tail_of [] = []
    tail_of (x ∷ xs) = xs

-- two parts at legs of their own are apart
pub legs_of : (way : Way) (d : ℕ) → IsFair way d →
    (begun begun' : List ℕ) (leg leg' : ProgramLeg) (xs ys : ProgramPoint) → length begun ≡ d → length begun' ≡ d →
    way begun ++ leg ∷ xs ≡ way begun' ++ leg' ∷ ys → leg ≡ leg'
legs_of way d fair begun begun' leg leg' xs ys e e' k =
    ap (head_or leg) (fair begun begun' (leg ∷ xs) (leg' ∷ ys) e e' k).1
  where
    head_or : ProgramLeg → ProgramPoint → ProgramLeg
    head_or l [] = l
    head_or l (x ∷ xs) = x

pub length_behind : (n d : ℕ) (begun : List ℕ) → length begun ≡ n + d → length (behind_first n begun) ≡ d
length_behind zero d begun e = e ∙ omega arith
length_behind (suc n) d [] e = absurd (omega (arith, e))
length_behind (suc n) d (b ∷ begun) e = length_behind n d begun (omega (arith, e))

-- what stands at the way of a part stands at its leg
pub as_part : (way : Way) (d : ℕ) (leg : ProgramLeg) (lines : Lines) (marks : Marks) →
    IsTold (further way leg) d lines marks → AreTold way d (λ l. leg ≡ l) lines marks
as_part way d leg lines marks h = record {
  under = λ legs w s begun e. let u = h.under legs w s begun e in
      (leg, u.0, refl, u.1 ∙ append_assoc (way (behind_first (loops_in legs) begun)) (leg ∷ []) u.0);
  one = h.one;
}

pub as_whole : (way : Way) (d : ℕ) (Own : ProgramLeg → Type 0) (lines : Lines) (marks : Marks) →
    AreTold way d Own lines marks → IsTold way d lines marks
as_whole way d Own lines marks h = record {
  under = λ legs w s begun e. let u = h.under legs w s begun e in (u.0 ∷ u.1, u.3);
  one = h.one;
}

pub told_more : (way : Way) (d : ℕ) (Own Other : ProgramLeg → Type 0) (lines : Lines) (marks : Marks) →
    ((leg : ProgramLeg) → Own leg → Other leg) → AreTold way d Own lines marks → AreTold way d Other lines marks
told_more way d Own Other lines marks f h = record {
  under = λ legs w s begun e. let u = h.under legs w s begun e in (u.0, u.1, f u.0 u.2, u.3);
  one = h.one;
}

-- ---- what a spot is

-- by the first line
abbrev pub Inverse : Lines → Marks → List Leg → Way → Type 0
Inverse NoLine marks legs w = ⊥
Inverse (SetThen to work rest) marks legs w =
    (inner : List Leg) × (legs ≡ Behind ∷ inner) × Spot rest (marks_behind marks) inner w
Inverse (LoadThen site to element root index rest) marks legs w =
    (inner : List Leg) × (legs ≡ Behind ∷ inner) × Spot rest (marks_behind marks) inner w
Inverse (StoreThen site element root index from rest) marks legs w =
    (inner : List Leg) × (legs ≡ Behind ∷ inner) × Spot rest (marks_behind marks) inner w
Inverse (ClearThen array rest) marks legs w =
    (inner : List Leg) × (legs ≡ Behind ∷ inner) × Spot rest (marks_behind marks) inner w
Inverse (IfThen site test chosen other rest) marks legs w =
    ((inner : List Leg) × (legs ≡ Behind ∷ inner) × Spot rest (marks_behind marks) inner w)
    ⊎ (((inner : List Leg) × (legs ≡ IntoChosen ∷ inner) × Spot chosen (marks_one marks) inner w) ⊎
    ((inner : List Leg) × (legs ≡ IntoOther ∷ inner) × Spot other (marks_two marks) inner w))
Inverse (LoopThen site first test answer body rest) marks legs w =
    ((inner : List Leg) × (legs ≡ Behind ∷ inner) × Spot rest (marks_behind marks) inner w)
    ⊎ (((inner : List Leg) × (legs ≡ IntoTest ∷ inner) × Spot test (marks_one marks) inner w) ⊎
    ((inner : List Leg) × (legs ≡ IntoBody ∷ inner) × Spot body (marks_two marks) inner w))
Inverse (BarrierThen site rest) marks legs w = ((legs ≡ []) × (first_way marks ≡ w)) ⊎
    ((inner : List Leg) × (legs ≡ Behind ∷ inner) × Spot rest (marks_behind marks) inner w)

pub invert : (lines : Lines) (marks : Marks) (legs : List Leg) (w : Way) → Spot lines marks legs w →
    Inverse lines marks legs w
invert _ _ _ w at_barrier = inl (refl, refl)
invert _ _ _ w (past_barrier {legs = legs} s) = inr (legs, refl, s)
invert _ _ _ w (past_set {legs = legs} s) = (legs, refl, s)
invert _ _ _ w (past_load {legs = legs} s) = (legs, refl, s)
invert _ _ _ w (past_store {legs = legs} s) = (legs, refl, s)
invert _ _ _ w (past_clear {legs = legs} s) = (legs, refl, s)
invert _ _ _ w (past_if {legs = legs} s) = inl (legs, refl, s)
invert _ _ _ w (in_chosen {legs = legs} s) = inr (inl (legs, refl, s))
invert _ _ _ w (in_other {legs = legs} s) = inr (inr (legs, refl, s))
invert _ _ _ w (past_loop {legs = legs} s) = inl (legs, refl, s)
invert _ _ _ w (in_test {legs = legs} s) = inr (inl (legs, refl, s))
invert _ _ _ w (in_body {legs = legs} s) = inr (inr (legs, refl, s))

-- the legs past lines
abbrev pub past_legs : Lines → List Leg → List Leg
past_legs NoLine legs = legs
past_legs (SetThen to work rest) legs = Behind ∷ past_legs rest legs
past_legs (LoadThen site to element root index rest) legs = Behind ∷ past_legs rest legs
past_legs (StoreThen site element root index from rest) legs = Behind ∷ past_legs rest legs
past_legs (ClearThen array rest) legs = Behind ∷ past_legs rest legs
past_legs (IfThen site test chosen other rest) legs = Behind ∷ past_legs rest legs
past_legs (LoopThen site first test answer body rest) legs = Behind ∷ past_legs rest legs
past_legs (BarrierThen site rest) legs = Behind ∷ past_legs rest legs

loops_past : (lines : Lines) (legs : List Leg) → loops_in (past_legs lines legs) ≡ loops_in legs
loops_past NoLine legs = refl
loops_past (SetThen to work rest) legs = loops_past rest legs
loops_past (LoadThen site to element root index rest) legs = loops_past rest legs
loops_past (StoreThen site element root index from rest) legs = loops_past rest legs
loops_past (ClearThen array rest) legs = loops_past rest legs
loops_past (IfThen site test chosen other rest) legs = loops_past rest legs
loops_past (LoopThen site first test answer body rest) legs = loops_past rest legs
loops_past (BarrierThen site rest) legs = loops_past rest legs

-- a spot of lines put one after another is one of the first, or one of the second
abbrev pub Split : Lines → Lines → Marks → Marks → List Leg → Way → Type 0
Split a b m k legs w = Spot a m legs w ⊎ ((inner : List Leg) × (legs ≡ past_legs a inner) × Spot b k inner w)

-- past one line
split_past : (lines rest b : Lines) (marks m k : Marks) (legs inner : List Leg) (w : Way) →
    ((l : List Leg) → Spot rest m l w → Spot lines marks (Behind ∷ l) w) →
    ((l : List Leg) → past_legs lines l ≡ Behind ∷ past_legs rest l)
    → legs ≡ Behind ∷ inner → Split rest b m k inner w → Split lines b marks k legs w
split_past lines rest b marks m k legs inner w past same e (inl t) =
    inl (subst (λ z. Spot lines marks z w) (sym e) (past inner t))
split_past lines rest b marks m k legs inner w past same e (inr t) =
    inr (t.0, e ∙ ap (λ z. Behind ∷ z) t.1 ∙ sym (same t.0), t.2)

-- within the first line
split_in : (lines b : Lines) (marks k : Marks) (legs there : List Leg) (w : Way) → legs ≡ there →
    Spot lines marks there w → Split lines b marks k legs w
split_in lines b marks k legs there w e t = inl (subst (λ z. Spot lines marks z w) (sym e) t)

spot_split : (a b : Lines) (m k : Marks) (legs : List Leg) (w : Way) → Shaped a m →
    Spot (joined_to a b) (marks_then m k) legs w → Split a b m k legs w
spot_split _ b _ k legs w no_line s = inr (legs, refl, s)
spot_split _ b _ k legs w (set_line {to = to} {work = work} {rest = rest} {way = way} {marks = m} h) s =
    let i = invert (SetThen to work (joined_to rest b)) (MarkThen way (marks_then m k)) legs w s in
    split_past (SetThen to work rest) rest b (MarkThen way m) m k legs i.0 w (λ l t. past_set t) (λ l. refl) i.1
    (spot_split rest b m k i.0 w h i.2)
spot_split _ b _ k legs w (load_line {site = site} {to = to} {element = element} {root = root} {index = index}
    {rest = rest} {way = way} {marks = m} h) s =
    let i = invert (LoadThen site to element root index (joined_to rest b)) (MarkThen way (marks_then m k)) legs w s in
    split_past (LoadThen site to element root index rest) rest b (MarkThen way m) m k legs i.0 w (λ l t. past_load t)
    (λ l. refl) i.1 (spot_split rest b m k i.0 w h i.2)
spot_split _ b _ k legs w (store_line {site = site} {element = element} {root = root} {index = index} {from = from}
    {rest = rest} {way = way} {marks = m} h) s =
    let i =
    invert (StoreThen site element root index from (joined_to rest b)) (MarkThen way (marks_then m k)) legs w s in
    split_past (StoreThen site element root index from rest) rest b (MarkThen way m) m k legs i.0 w
    (λ l t. past_store t) (λ l. refl) i.1 (spot_split rest b m k i.0 w h i.2)
spot_split _ b _ k legs w (clear_line {array = array} {rest = rest} {way = way} {marks = m} h) s =
    let i = invert (ClearThen array (joined_to rest b)) (MarkThen way (marks_then m k)) legs w s in
    split_past (ClearThen array rest) rest b (MarkThen way m) m k legs i.0 w (λ l t. past_clear t) (λ l. refl) i.1
    (spot_split rest b m k i.0 w h i.2)
spot_split _ b _ k legs w (if_line {site = site} {test = test} {chosen = chosen} {other = other} {rest = rest}
    {way = way} {one = one} {two = two} {marks = m} y n h) s =
    let lines = IfThen site test chosen other rest in
    let marks = FormThen way one two m in
    ⊎_elim (λ i. split_past lines rest b marks m k legs i.0 w (λ l t. past_if t) (λ l. refl) i.1
    (spot_split rest b m k i.0 w h i.2))
    (λ r. ⊎_elim (λ i. split_in lines b marks k legs (IntoChosen ∷ i.0) w i.1 (in_chosen i.2))
    (λ i. split_in lines b marks k legs (IntoOther ∷ i.0) w i.1 (in_other i.2)) r)
    (invert (IfThen site test chosen other (joined_to rest b)) (FormThen way one two (marks_then m k)) legs w s)
spot_split _ b _ k legs w (loop_line {site = site} {test_first = first} {answer = answer} {test = test} {body = body}
    {rest = rest} {way = way} {one = one} {two = two} {marks = m} t l h) s =
    let lines = LoopThen site first test answer body rest in
    let marks = FormThen way one two m in
    ⊎_elim (λ i. split_past lines rest b marks m k legs i.0 w (λ l t. past_loop t) (λ l. refl) i.1
    (spot_split rest b m k i.0 w h i.2))
    (λ r. ⊎_elim (λ i. split_in lines b marks k legs (IntoTest ∷ i.0) w i.1 (in_test i.2))
    (λ i. split_in lines b marks k legs (IntoBody ∷ i.0) w i.1 (in_body i.2)) r)
    (invert (LoopThen site first test answer body (joined_to rest b)) (FormThen way one two (marks_then m k)) legs w s)
spot_split _ b _ k legs w (barrier_line {site = site} {rest = rest} {way = way} {marks = m} h) s =
    let lines = BarrierThen site rest in
    let marks = MarkThen way m in
    ⊎_elim (λ i. split_in lines b marks k legs [] w i.0 (subst (λ v. Spot lines marks [] v) i.1 at_barrier))
    (λ i. split_past lines rest b marks m k legs i.0 w (λ l t. past_barrier t) (λ l. refl) i.1
    (spot_split rest b m k i.0 w h i.2))
    (invert (BarrierThen site (joined_to rest b)) (MarkThen way (marks_then m k)) legs w s)

-- ---- parts one after another

module _ (way : Way) (d : ℕ) (fair : IsFair way d) where
  -- spots of two parts at legs of their own are not at one point
  pub apart : (Own Other : ProgramLeg → Type 0) (a b : Lines) (m k : Marks) → AreTold way d Own a m →
      AreTold way d Other b k → ((leg : ProgramLeg) → Own leg → Other leg → ⊥)
      → (legs legs' : List Leg) (w w' : Way) → Spot a m legs w → Spot b k legs' w' → (begun begun' : List ℕ) →
      length begun ≡ loops_in legs + d → length begun' ≡ loops_in legs' + d → w begun ≡ w' begun' → ⊥
  apart Own Other a b m k h g disjoint legs legs' w w' s s' begun begun' e e' same =
      let u = h.under legs w s begun e in
      let v = g.under legs' w' s' begun' e' in
      let q = legs_of way d fair (behind_first (loops_in legs) begun) (behind_first (loops_in legs') begun') u.0 v.0
      u.1 v.1 (length_behind (loops_in legs) d begun e) (length_behind (loops_in legs') d begun' e') (sym u.3 ∙
      same ∙ v.3) in
      disjoint v.0 (subst Own q u.2) v.2

  pub told_then : (Own Other : ProgramLeg → Type 0) (a b : Lines) (m k : Marks) → Shaped a m → AreTold way d Own a m →
      AreTold way d Other b k → ((leg : ProgramLeg) → Own leg → Other leg → ⊥)
      → AreTold way d (λ leg. Own leg ⊎ Other leg) (joined_to a b) (marks_then m k)
  told_then Own Other a b m k shaped h g disjoint = record {
    under = λ legs w s begun e. under legs w begun e (spot_split a b m k legs w shaped s);
    one = λ legs legs' w w' s s' begun begun' e e' same. one legs legs' w w' begun begun' e e' same
        (spot_split a b m k legs w shaped s) (spot_split a b m k legs' w' shaped s');
  }
    where
      loops : (legs inner : List Leg) → legs ≡ past_legs a inner → loops_in legs ≡ loops_in inner
      loops legs inner e = ap loops_in e ∙ loops_past a inner

      under : (legs : List Leg) (w : Way) (begun : List ℕ) → length begun ≡ loops_in legs + d → Split a b m k legs w
          → (leg : ProgramLeg) × (tail : ProgramPoint) × (Own leg ⊎ Other leg) ×
          (w begun ≡ way (behind_first (loops_in legs) begun) ++ leg ∷ tail)
      under legs w begun e (inl s) = let u = h.under legs w s begun e in (u.0, u.1, inl u.2, u.3)
      under legs w begun e (inr s) =
          let p = loops legs s.0 s.1 in
          let u = g.under s.0 w s.2 begun (e ∙ ap (λ n. n + d) p) in
          (u.0, u.1, inr u.2, u.3 ∙ ap (λ n. way (behind_first n begun) ++ u.0 ∷ u.1) (sym p))

      one : (legs legs' : List Leg) (w w' : Way) (begun begun' : List ℕ) → length begun ≡ loops_in legs + d →
          length begun' ≡ loops_in legs' + d → w begun ≡ w' begun' → Split a b m k legs w → Split a b m k legs' w' →
          (legs ≡ legs') × (begun ≡ begun')
      one legs legs' w w' begun begun' e e' same (inl s) (inl s') = h.one legs legs' w w' s s' begun begun' e e' same
      one legs legs' w w' begun begun' e e' same (inl s) (inr s') =
          absurd (apart Own Other a b m k h g disjoint legs s'.0 w w' s s'.2 begun begun' e (e' ∙
          ap (λ n. n + d) (loops legs' s'.0 s'.1)) same)
      one legs legs' w w' begun begun' e e' same (inr s) (inl s') =
          absurd (apart Own Other a b m k h g disjoint legs' s.0 w' w s' s.2 begun' begun e' (e ∙
          ap (λ n. n + d) (loops legs s.0 s.1)) (sym same))
      one legs legs' w w' begun begun' e e' same (inr s) (inr s') =
          let p = g.one s.0 s'.0 w w' s.2 s'.2 begun begun' (e ∙ ap (λ n. n + d) (loops legs s.0 s.1)) (e' ∙
          ap (λ n. n + d) (loops legs' s'.0 s'.1)) same in
          (s.1 ∙ ap (past_legs a) p.0 ∙ sym s'.1, p.1)
