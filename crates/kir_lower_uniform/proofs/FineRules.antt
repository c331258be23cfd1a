-- Lines are fine where the variables' cells that are live there are of some variables, any two of which have one
-- scope, and which cross where the lines hold a barrier.
use Rattle.std.proofs.Common.{◌≡◌, ℕ, List, ◌∷◌, ◌++◌, Option, Some, None, refl, sym, ap, ◌∙◌, subst, inl, inr}
use Rattle.std.proofs.Common.{if◌then◌else◌}
use Rattle.std.specs.Prelude.{◌&&◌, ◌||◌, not, nat_eq}
use Rattle.std.specs.Prelude.{Bool as Test, true, false}
use Rattle.std.proofs.lemmas.Bool.{or_left, or_right, and_parts}
use Rattle.cl_model.specs.Tree.{Expression, Apply, Update, Choose, Call, Expressions, none, more, Statement, Do}
use Rattle.cl_model.specs.Tree.{Declare, Fill, Block, If, Loop, Switch, Break, Continue, Return, Barrier, Statements}
use Rattle.cl_model.specs.Tree.{empty, also, Arms, no_arm, arm, Program}
use Rattle.cl_model.specs.Lists.{IsOneOf}
use Rattle.kir.specs.declared.line.Atom.{Atom}
use Rattle.kir.specs.Tree.{Variable, Lines, NoLine, SetThen, LoadThen, StoreThen, ClearThen, IfThen, LoopThen}
use Rattle.kir.specs.Tree.{BarrierThen, joined_to, Kernel}
use Rattle.kir.specs.Live.{reads, work_reads, live_in}
use Rattle.kir.specs.Cuts.{holds_barrier}
use Rattle.kir.specs.Homes.{IsCellOf}
use Rattle.kir.specs.Inlined.{Text, NoText, DeclaredThen, CutThen, BlockThen, cut_if, Inlining, expression_before}
use Rattle.kir.specs.Inlined.{expressions_before, optional_before, statement_before, statements_before, arms_before}
use Rattle.kir.specs.Inlined.{holds_in, holds_among, holds_in_optional, holds, some_holds, has_cut, declared_in}
use Rattle.kir.specs.Inlined.{crossing_in, scopes_in, scopes_of, Crosses, AreDisjoint}
use Rattle.kir_uniform.specs.Uniform.{tested}
use Rattle.kir_uniform.proofs.Living.{or_either, live_more}
use Rattle.kir_lower_shape.proofs.Quiet.{or_false, live_joined}
use Rattle.diverge_sound.proofs.Parts.{in_left, in_right}
use Rattle.kir_lower_uniform.proofs.Fine.{Crossing, Meeting, Fine}

tested_more : (a b b' x : Test) → (b ≡ true → b' ≡ true) → (a || (b || x)) ≡ true → (a || (b' || x)) ≡ true
tested_more true b b' x f h = refl
tested_more false true b' x f h = ap (λ z. z || x) (f refl)
tested_more false false true x f h = refl
tested_more false false false x f h = h

module _ (program : Program) (kernel : Kernel) where
  -- the less is live behind
  pub fine_less : (out more_ : ℕ → Test) (lines : Lines) → ((c : ℕ) → out c ≡ true → more_ c ≡ true) →
      Fine program kernel more_ lines → Fine program kernel out lines
  fine_less out more_ NoLine h f = λ v w c d i j a b. f v w c d i j (h c a) (h d b)
  fine_less out more_ (SetThen to work rest) h f = (
    (λ v w c d i j a b. f.0 v w c d i j (live_more c (SetThen to work rest) (out c) (more_ c) (h c) a)
        (live_more d (SetThen to work rest) (out d) (more_ d) (h d) b)),
    fine_less out more_ rest h f.1,
  )
  fine_less out more_ (LoadThen site to element root index rest) h f = (
    (λ v w c d i j a b. f.0 v w c d i j (live_more c (LoadThen site to element root index rest) (out c) (more_ c)
        (h c) a) (live_more d (LoadThen site to element root index rest) (out d) (more_ d) (h d) b)),
    fine_less out more_ rest h f.1,
  )
  fine_less out more_ (StoreThen site element root index from rest) h f = (
    (λ v w c d i j a b. f.0 v w c d i j (live_more c (StoreThen site element root index from rest) (out c)
        (more_ c) (h c) a) (live_more d (StoreThen site element root index from rest) (out d) (more_ d) (h d)
        b)),
    fine_less out more_ rest h f.1,
  )
  fine_less out more_ (ClearThen array rest) h f = (
    (λ v w c d i j a b. f.0 v w c d i j (live_more c (ClearThen array rest) (out c) (more_ c) (h c) a)
        (live_more d (ClearThen array rest) (out d) (more_ d) (h d) b)),
    fine_less out more_ rest h f.1,
  )
  fine_less out more_ (IfThen site test chosen other rest) h f =
      let l : (c : ℕ) → live_in c rest (out c) ≡ true → live_in c rest (more_ c) ≡ true =
      λ c. live_more c rest (out c) (more_ c) (h c) in
      let a0 : (c : ℕ) → live_in c (IfThen site test chosen other rest) (out c) ≡ true →
      live_in c (IfThen site test chosen other rest) (more_ c) ≡ true =
      λ c. live_more c (IfThen site test chosen other rest) (out c) (more_ c) (h c) in (
        (λ v w c d i j a b. f.0 v w c d i j (a0 c a) (a0 d b)),
        (λ e. ((λ v c i a. (f.1 e).0 v c i (a0 c a)), (λ v c i a. (f.1 e).1 v c i (l c a)))),
        fine_less (λ c. live_in c rest (out c)) (λ c. live_in c rest (more_ c)) chosen l f.2,
        fine_less (λ c. live_in c rest (out c)) (λ c. live_in c rest (more_ c)) other l f.3,
        fine_less out more_ rest h f.4,
      )
  fine_less out more_ (LoopThen site first test answer body rest) h f =
      let l : (c : ℕ) → live_in c rest (out c) ≡ true → live_in c rest (more_ c) ≡ true =
      λ c. live_more c rest (out c) (more_ c) (h c) in
      let a0 : (c : ℕ) → live_in c (LoopThen site first test answer body rest) (out c) ≡ true →
      live_in c (LoopThen site first test answer body rest) (more_ c) ≡ true =
      λ c. live_more c (LoopThen site first test answer body rest) (out c) (more_ c) (h c) in
      let t0 : (c : ℕ) → tested test answer body (λ d. live_in d rest (out d)) c ≡ true →
      tested test answer body (λ d. live_in d rest (more_ d)) c ≡ true =
      λ c. tested_more (reads c answer) (live_in c rest (out c)) (live_in c rest (more_ c))
      (live_in c body (live_in c test false)) (l c) in
      let t1 : (c : ℕ) → live_in c test (tested test answer body (λ d. live_in d rest (out d)) c) ≡ true →
      live_in c test (tested test answer body (λ d. live_in d rest (more_ d)) c) ≡ true =
      λ c. live_more c test _ _ (t0 c) in
      let t2 : (c : ℕ) → live_in c body (live_in c test (tested test answer body (λ d. live_in d rest (out d)) c)) ≡
      true → live_in c body (live_in c test (tested test answer body (λ d. live_in d rest (more_ d)) c)) ≡ true =
      λ c. live_more c body _ _ (t1 c) in (
        (λ v w c d i j a b. f.0 v w c d i j (a0 c a) (a0 d b)),
        (λ e. (
          (λ v c i a. (f.1 e).0 v c i (t1 c a)),
          (λ v c i a. (f.1 e).1 v c i (t0 c a)),
          (λ v c i a. (f.1 e).2 v c i (t2 c a)),
        )),
        (λ v w c d i j a b. f.2 v w c d i j (t0 c a) (t0 d b)),
        fine_less (tested test answer body (λ d. live_in d rest (out d)))
            (tested test answer body (λ d. live_in d rest (more_ d))) test t0 f.3,
        fine_less (λ c. live_in c test (tested test answer body (λ d. live_in d rest (out d)) c))
            (λ c. live_in c test (tested test answer body (λ d. live_in d rest (more_ d)) c)) body t1 f.4,
        fine_less out more_ rest h f.5,
      )
  fine_less out more_ (BarrierThen site rest) h f =
      let a0 : (c : ℕ) → live_in c (BarrierThen site rest) (out c) ≡ true →
      live_in c (BarrierThen site rest) (more_ c) ≡ true =
      λ c. live_more c (BarrierThen site rest) (out c) (more_ c) (h c) in (
        (λ v w c d i j a b. f.0 v w c d i j (a0 c a) (a0 d b)),
        (λ v c i a. f.1 v c i (a0 c a)),
        fine_less out more_ rest h f.2,
      )

  -- lines before others
  module _ (out : ℕ → Test) (tail : Lines) (behind_ : Fine program kernel out tail) where
    Out : ℕ → Test
    Out c = live_in c tail (out c)

    joined_live : (lines : Lines) (c : ℕ) → live_in c (joined_to lines tail) (out c) ≡ true →
        live_in c lines (live_in c tail (out c)) ≡ true
    joined_live lines c a = sym (live_joined c lines tail (out c)) ∙ a

    pub fine_joined : (lines : Lines) → Fine program kernel (λ c. live_in c tail (out c)) lines →
        Fine program kernel out (joined_to lines tail)
    fine_joined NoLine f = behind_
    fine_joined (SetThen to work rest) f = (
      (λ v w c d i j a b. f.0 v w c d i j (joined_live (SetThen to work rest) c a)
          (joined_live (SetThen to work rest) d b)),
      fine_joined rest f.1,
    )
    fine_joined (LoadThen site to element root index rest) f = (
      (λ v w c d i j a b. f.0 v w c d i j (joined_live (LoadThen site to element root index rest) c a)
          (joined_live (LoadThen site to element root index rest) d b)),
      fine_joined rest f.1,
    )
    fine_joined (StoreThen site element root index from rest) f = (
      (λ v w c d i j a b. f.0 v w c d i j (joined_live (StoreThen site element root index from rest) c a)
          (joined_live (StoreThen site element root index from rest) d b)),
      fine_joined rest f.1,
    )
    fine_joined (ClearThen array rest) f = (
      (λ v w c d i j a b. f.0 v w c d i j (joined_live (ClearThen array rest) c a)
          (joined_live (ClearThen array rest) d b)),
      fine_joined rest f.1,
    )
    fine_joined (IfThen site test chosen other rest) f = (
      (λ v w c d i j a b. f.0 v w c d i j (joined_live (IfThen site test chosen other rest) c a)
          (joined_live (IfThen site test chosen other rest) d b)),
      (λ e. (
        (λ v c i a. (f.1 e).0 v c i (joined_live (IfThen site test chosen other rest) c a)),
        (λ v c i a. (f.1 e).1 v c i (joined_live rest c a)),
      )),
      fine_less _ _ chosen (λ c. joined_live rest c) f.2,
      fine_less _ _ other (λ c. joined_live rest c) f.3,
      fine_joined rest f.4,
    )
    fine_joined (LoopThen site first test answer body rest) f =
        let l : (c : ℕ) → live_in c (joined_to rest tail) (out c) ≡ true →
        live_in c rest (live_in c tail (out c)) ≡ true = λ c. joined_live rest c in
        let t0 : (c : ℕ) → tested test answer body (λ d. live_in d (joined_to rest tail) (out d)) c ≡ true →
        tested test answer body (λ d. live_in d rest (live_in d tail (out d))) c ≡ true =
        λ c. tested_more (reads c answer) (live_in c (joined_to rest tail) (out c))
        (live_in c rest (live_in c tail (out c))) (live_in c body (live_in c test false)) (l c) in
        let t1 : (c : ℕ) → live_in c test (tested test answer body (λ d. live_in d (joined_to rest tail) (out d)) c) ≡
        true → live_in c test (tested test answer body (λ d. live_in d rest (live_in d tail (out d))) c) ≡ true =
        λ c. live_more c test _ _ (t0 c) in
        let t2 : (c : ℕ) → live_in c body
        (live_in c test (tested test answer body (λ d. live_in d (joined_to rest tail) (out d)) c)) ≡ true →
        live_in c body (live_in c test (tested test answer body (λ d. live_in d rest (live_in d tail (out d))) c))
        ≡ true =
        λ c. live_more c body _ _ (t1 c) in (
          (λ v w c d i j a b. f.0 v w c d i j (joined_live (LoopThen site first test answer body rest) c a)
              (joined_live (LoopThen site first test answer body rest) d b)),
          (λ e. (
            (λ v c i a. (f.1 e).0 v c i (t1 c a)),
            (λ v c i a. (f.1 e).1 v c i (t0 c a)),
            (λ v c i a. (f.1 e).2 v c i (t2 c a)),
          )),
          (λ v w c d i j a b. f.2 v w c d i j (t0 c a) (t0 d b)),
          fine_less _ _ test t0 f.3,
          fine_less _ _ body t1 f.4,
          fine_joined rest f.5,
        )
    fine_joined (BarrierThen site rest) f = (
      (λ v w c d i j a b. f.0 v w c d i j (joined_live (BarrierThen site rest) c a)
          (joined_live (BarrierThen site rest) d b)),
      (λ v c i a. f.1 v c i (joined_live (BarrierThen site rest) c a)),
      fine_joined rest f.2,
    )

  -- ---- some variables

  -- the cells of variables that are live are of these
  abbrev pub In : (Variable → Type 0) → (ℕ → Test) → Type 0
  In X live = (v : Variable) (c : ℕ) → IsCellOf kernel v c → live c ≡ true → X v

  -- no two of them have disjoint scopes, and they cross where this is so
  pub record Good (X : Variable → Type 0) (b : Test) : Type 0 where
    pub meet : (v w : Variable) → X v → X w → AreDisjoint program v w → ⊥
    pub cross : b ≡ true → (v : Variable) → X v → Crosses program v

  pub good_less : (X : Variable → Type 0) (a b : Test) → (b ≡ true → a ≡ true) → Good X a → Good X b
  good_less X a b h g = record { meet = g.meet; cross = λ e. g.cross (h e) }

  meeting : (X : Variable → Type 0) (b : Test) (live : ℕ → Test) → Good X b → In X live → Meeting program kernel live
  meeting X b live g n v w c d i j x y = g.meet v w (n v c i x) (n w d j y)

  crossing : (X : Variable → Type 0) (b : Test) (live : ℕ → Test) → Good X b → b ≡ true → In X live →
      Crossing program kernel live
  crossing X b live g e n v c i x = g.cross e v (n v c i x)

  in_or : (X : Variable → Type 0) (f g : ℕ → Test) → In X f → In X g → In X (λ c. f c || g c)
  in_or X f g h k v c i e = elim (or_either (f c) (g c) e) [ inl x ↦ h v c i x | inr y ↦ k v c i y ]

  in_set : (X : Variable → Type 0) (f g : ℕ → Test) (to : ℕ) → In X f → In X g →
      In X (λ c. f c || (not (nat_eq c to) && g c))
  in_set X f g to h k v c i e =
      elim (or_either (f c) _ e) [ inl x ↦ h v c i x | inr y ↦ k v c i (and_parts (not (nat_eq c to)) (g c) y).1 ]

  -- plain lines, without a loop or barrier, that read no cells of other variables
  abbrev pub ReadsIn : (Variable → Type 0) → Lines → Type 0
  ReadsIn X NoLine = Unit {0}
  ReadsIn X (SetThen to work rest) = In X (λ c. work_reads c work) × ReadsIn X rest
  ReadsIn X (LoadThen site to element root index rest) = In X (λ c. reads c index) × ReadsIn X rest
  ReadsIn X (StoreThen site element root index from rest) = In X (λ c. reads c index || reads c from) × ReadsIn X rest
  ReadsIn X (ClearThen array rest) = ReadsIn X rest
  ReadsIn X (IfThen site test chosen other rest) =
      In X (λ c. reads c test) × ReadsIn X chosen × ReadsIn X other × ReadsIn X rest
  ReadsIn X (LoopThen site first test answer body rest) = ⊥
  ReadsIn X (BarrierThen site rest) = ⊥

  pub in_before : (X : Variable → Type 0) (lines : Lines) (out : ℕ → Test) → ReadsIn X lines → In X out →
      In X (λ c. live_in c lines (out c))
  in_before X NoLine out r n = n
  in_before X (SetThen to work rest) out r n =
      in_set X (λ c. work_reads c work) (λ c. live_in c rest (out c)) to r.0 (in_before X rest out r.1 n)
  in_before X (LoadThen site to element root index rest) out r n =
      in_set X (λ c. reads c index) (λ c. live_in c rest (out c)) to r.0 (in_before X rest out r.1 n)
  in_before X (StoreThen site element root index from rest) out r n =
      in_or X (λ c. reads c index || reads c from) (λ c. live_in c rest (out c)) r.0 (in_before X rest out r.1 n)
  in_before X (ClearThen array rest) out r n = in_before X rest out r n
  in_before X (IfThen site test chosen other rest) out r n =
      let k = in_before X rest out r.3 n in
      in_or X (λ c. reads c test) (λ c. live_in c chosen (live_in c rest (out c)) ||
      live_in c other (live_in c rest (out c))) r.0
      (in_or X (λ c. live_in c chosen (live_in c rest (out c))) (λ c. live_in c other (live_in c rest (out c)))
      (in_before X chosen (λ c. live_in c rest (out c)) r.1 k) (in_before X other (λ c. live_in c rest (out c))
      r.2 k))
  in_before X (LoopThen site first test answer body rest) out r n = absurd r
  in_before X (BarrierThen site rest) out r n = absurd r

  none_held : (a b : Test) → a ≡ false → b ≡ false → (a || b) ≡ true → ⊥
  none_held a b f g e = elim (or_either a b e) [
    | inl x ↦ (let z : true ≡ false = sym x ∙ f in cc)
    | inr y ↦
        (let z : true ≡ false = sym y ∙ g in cc)
  ]

  plain_held : (X : Variable → Type 0) (lines : Lines) → ReadsIn X lines → holds_barrier lines ≡ false
  plain_held X NoLine r = refl
  plain_held X (SetThen to work rest) r = plain_held X rest r.1
  plain_held X (LoadThen site to element root index rest) r = plain_held X rest r.1
  plain_held X (StoreThen site element root index from rest) r = plain_held X rest r.1
  plain_held X (ClearThen array rest) r = plain_held X rest r
  plain_held X (IfThen site test chosen other rest) r =
      or_false (holds_barrier chosen) _ (plain_held X chosen r.1)
      (or_false (holds_barrier other) _ (plain_held X other r.2) (plain_held X rest r.3))
  plain_held X (LoopThen site first test answer body rest) r = absurd r
  plain_held X (BarrierThen site rest) r = absurd r

  -- they are fine
  pub fine_reads : (X : Variable → Type 0) (b : Test) (lines : Lines) (out : ℕ → Test) → ReadsIn X lines → In X out →
      Good X b → Fine program kernel out lines
  fine_reads X b NoLine out r n g = meeting X b _ g n
  fine_reads X b (SetThen to work rest) out r n g =
      (meeting X b _ g (in_before X (SetThen to work rest) out r n), fine_reads X b rest out r.1 n g)
  fine_reads X b (LoadThen site to element root index rest) out r n g = (
    meeting X b _ g (in_before X (LoadThen site to element root index rest) out r n),
    fine_reads X b rest out r.1 n g,
  )
  fine_reads X b (StoreThen site element root index from rest) out r n g = (
    meeting X b _ g (in_before X (StoreThen site element root index from rest) out r n),
    fine_reads X b rest out r.1 n g,
  )
  fine_reads X b (ClearThen array rest) out r n g =
      (meeting X b _ g (in_before X (ClearThen array rest) out r n), fine_reads X b rest out r n g)
  fine_reads X b (IfThen site test chosen other rest) out r n g =
      let k = in_before X rest out r.3 n in (
        meeting X b _ g (in_before X (IfThen site test chosen other rest) out r n),
        (λ e. absurd (none_held (holds_barrier chosen) (holds_barrier other) (plain_held X chosen r.1)
            (plain_held X other r.2) e)),
        fine_reads X b chosen (λ c. live_in c rest (out c)) r.1 k g,
        fine_reads X b other (λ c. live_in c rest (out c)) r.2 k g,
        fine_reads X b rest out r.3 n g,
      )
  fine_reads X b (LoopThen site first test answer body rest) out r n g = absurd r
  fine_reads X b (BarrierThen site rest) out r n g = absurd r

  -- an if, where what holds a barrier is known of both branches
  pub fine_if : (X : Variable → Type 0) (b : Test) (site : ℕ) (test : Atom) (chosen other : Lines) (out : ℕ → Test) →
      Good X b → ((holds_barrier chosen || holds_barrier other) ≡ true → b ≡ true) → In X (λ c. reads c test) → In X out
      → In X (λ c. live_in c chosen (out c)) → In X (λ c. live_in c other (out c)) → Fine program kernel out chosen →
      Fine program kernel out other → Fine program kernel out (IfThen site test chosen other NoLine)
  fine_if X b site test chosen other out g held r n y z fy fz =
      let before = in_or X (λ c. reads c test) (λ c. live_in c chosen (out c) || live_in c other (out c)) r
      (in_or X (λ c. live_in c chosen (out c)) (λ c. live_in c other (out c)) y z) in (
        meeting X b _ g before,
        (λ e. (crossing X b _ g (held e) before, crossing X b _ g (held e) n)),
        fy,
        fz,
        meeting X b _ g n,
      )

  -- a loop
  pub fine_loop : (X : Variable → Type 0) (b : Test) (site : ℕ) (first : Test) (test : Lines) (answer : Atom)
      (body : Lines) (out : ℕ → Test) → Good X b → ((holds_barrier test || holds_barrier body) ≡ true → b ≡ true) →
      In X (λ c. reads c answer) → In X out
      → ((out' : ℕ → Test) → In X out' → In X (λ c. live_in c test (out' c)) × Fine program kernel out' test) →
      ((out' : ℕ → Test) → In X out' → In X (λ c. live_in c body (out' c)) × Fine program kernel out' body)
      → Fine program kernel out (LoopThen site first test answer body NoLine)
  fine_loop X b site first test answer body out g held r n ft fb =
      let none_ : In X (λ c. false) = λ v c i e. absurd (let z : false ≡ true = e in cc) in
      let heads : In X (tested test answer body out) =
      in_or X (λ c. reads c answer) (λ c. out c || live_in c body (live_in c test false)) r
      (in_or X out (λ c. live_in c body (live_in c test false)) n
      (fb (λ c. live_in c test false) (ft (λ c. false) none_).0).0) in
      let t = ft (tested test answer body out) heads in
      let k = fb (λ c. live_in c test (tested test answer body out c)) t.0 in
      by first t.0 k.0 heads t.1 k.1
    where
      by : (first : Test) → In X (λ c. live_in c test (tested test answer body out c)) →
          In X (λ c. live_in c body (live_in c test (tested test answer body out c))) →
          In X (tested test answer body out) → Fine program kernel (tested test answer body out) test
          → Fine program kernel (λ c. live_in c test (tested test answer body out c)) body →
          Fine program kernel out (LoopThen site first test answer body NoLine)
      by true t k heads f h = (
        meeting X b _ g t,
        (λ e. (crossing X b _ g (held e) t, crossing X b _ g (held e) heads, crossing X b _ g (held e) k)),
        meeting X b _ g heads,
        f,
        h,
        meeting X b _ g n,
      )
      by false t k heads f h = (
        meeting X b _ g k,
        (λ e. (crossing X b _ g (held e) t, crossing X b _ g (held e) heads, crossing X b _ g (held e) k)),
        meeting X b _ g heads,
        f,
        h,
        meeting X b _ g n,
      )

  -- ---- what stands in the text

  -- a declaration crosses where a cut stands behind it, and is one of the block's; so in blocks
  abbrev pub Ok : List Variable → Text → Type 0
  Ok S NoText = Unit {0}
  Ok S (DeclaredThen v rest) = (has_cut rest ≡ true → Crosses program v) × IsOneOf S v × Ok S rest
  Ok S (CutThen rest) = Ok S rest
  Ok S (BlockThen inside rest) =
      IsOneOf (scopes_of program) (declared_in inside ++ S) × Ok (declared_in inside ++ S) inside × Ok S rest

  pub all_ok : (S : List Variable) (t : Text) → ((v : Variable) → IsOneOf (crossing_in t) v → Crosses program v) →
      ((scope : List Variable) → IsOneOf (scopes_in S t) scope → IsOneOf (scopes_of program) scope)
      → ((v : Variable) → IsOneOf (declared_in t) v → IsOneOf S v) → Ok S t
  all_ok S NoText h k d = tt
  all_ok S (DeclaredThen v rest) h k d = (
    (λ e. h v (subst (λ (z : Test). IsOneOf (if z then v ∷ crossing_in rest else crossing_in rest) v) (sym e)
        (inl refl))),
    d v (inl refl),
    all_ok S rest (λ w i. h w (behind_ (has_cut rest) w i)) k
        (λ w i. d w (inr i)),
  )
    where
      behind_ : (z : Test) (w : Variable) → IsOneOf (crossing_in rest) w →
          IsOneOf (if z then v ∷ crossing_in rest else crossing_in rest) w
      behind_ true w i = inr i
      behind_ false w i = i
  all_ok S (CutThen rest) h k d = all_ok S rest h k d
  all_ok S (BlockThen inside rest) h k d =
      let T = declared_in inside ++ S in (
        k T (inl refl),
        all_ok T inside (λ w i. h w (in_left (crossing_in inside) (crossing_in rest) w i))
            (λ s i. k s (inr (in_left (scopes_in T inside) (scopes_in S rest) s i)))
            (λ w i. in_left (declared_in inside) S w i),
        all_ok S rest (λ w i. h w (in_right (crossing_in inside) (crossing_in rest) w i))
            (λ s i. k s (inr (in_right (scopes_in T inside) (scopes_in S rest) s i))) d,
      )

  pub ok_cut : (S : List Variable) (b : Test) (t : Text) → Ok S (cut_if b t) → Ok S t
  ok_cut S true t h = h
  ok_cut S false t h = h

  -- what is behind an expression or a statement
  module _ (here : Inlining) (called : (S : List Variable) (site g : ℕ) (t : Text) → Ok S (here.called site g t) →
      Ok S t) (S : List Variable) where
    mutual
      pub ok_expression : (e : Expression) (t : Text) → Ok S (expression_before here.called e t) → Ok S t
      ok_expression (Apply action operands) t h = ok_expressions operands t h
      ok_expression (Update site element root op of back old index value) t h =
          ok_expression value t (ok_expression index _ h)
      ok_expression (Choose site test chosen other) t h =
          ok_expression other t (ok_expression chosen _ (ok_expression test _ h))
      ok_expression (Call site g roots arguments) t h = called S site g t (ok_expressions arguments _ h)

      pub ok_expressions : (es : Expressions) (t : Text) → Ok S (expressions_before here.called es t) → Ok S t
      ok_expressions none t h = h
      ok_expressions (more e es) t h = ok_expressions es t (ok_expression e _ h)

    pub ok_optional : (e : Option Expression) (t : Text) → Ok S (optional_before here.called e t) → Ok S t
    ok_optional None t h = h
    ok_optional (Some e) t h = ok_expression e t h

    mutual
      pub ok_statement : (s : Statement) (t : Text) → Ok S (statement_before here s t) → Ok S t
      ok_statement (Do e) t h = ok_expression e t h
      ok_statement (Declare x value) t h = (ok_optional value _ h).2
      ok_statement (Fill site array values) t h = ok_expressions values t h
      ok_statement (Block list) t h = h.2
      ok_statement (If site test chosen other) t h = let b = holds here.inside (If site test chosen other) in
          ok_cut S b t (ok_statements other _
          (ok_cut S b _ (ok_statements chosen _ (ok_cut S b _ (ok_expression test _ (ok_cut S b _ h))))))
      ok_statement (Loop site true test step body) t h = let b = holds here.inside (Loop site true test step body) in
          ok_cut S b t (ok_statement body _
          (ok_cut S b _ (ok_optional step _ (ok_cut S b _ (ok_optional test _ (ok_cut S b _ h))))))
      ok_statement (Loop site false test step body) t h = let b =
          holds here.inside (Loop site false test step body) in
          ok_cut S b t (ok_optional test _
          (ok_cut S b _ (ok_optional step _ (ok_cut S b _ (ok_statement body _ (ok_cut S b _ h))))))
      ok_statement (Switch site value arms) t h = let b = holds here.inside (Switch site value arms) in
          ok_cut S b t (ok_arms arms _ (ok_cut S b _ (ok_expression value _ (ok_cut S b _ h))))
      ok_statement (Break site) t h = h
      ok_statement (Continue site) t h = h
      ok_statement (Return site value) t h = ok_optional value t h
      ok_statement (Barrier site) t h = h

      pub ok_statements : (list : Statements) (t : Text) → Ok S (statements_before here list t) → Ok S t
      ok_statements empty t h = h
      ok_statements (also s list) t h = ok_statements list t (ok_statement s _ h)

      pub ok_arms : (arms : Arms) (t : Text) → Ok S (arms_before here arms t) → Ok S t
      ok_arms no_arm t h = h
      ok_arms (arm labels other body arms) t h = ok_arms arms t (ok_statements body _ h)

-- ---- cuts in the text

module _ (here : Inlining) (keeps : (site g : ℕ) (t : Text) → has_cut t ≡ true →
    has_cut (here.called site g t) ≡ true) (there : (site g : ℕ) (t : Text) → here.inside g ≡ true →
    has_cut (here.called site g t) ≡ true) where
  cut_if_keeps : (b : Test) (t : Text) → has_cut t ≡ true → has_cut (cut_if b t) ≡ true
  cut_if_keeps true t h = refl
  cut_if_keeps false t h = h

  cut_if_there : (b : Test) (t : Text) → b ≡ true → has_cut (cut_if b t) ≡ true
  cut_if_there true t h = refl
  cut_if_there false t h = cc

  mutual
    cut_expression : (e : Expression) (t : Text) → has_cut t ≡ true → has_cut (expression_before here.called e t) ≡ true
    cut_expression (Apply action operands) t h = cut_expressions operands t h
    cut_expression (Update site element root op of back old index value) t h =
        cut_expression index _ (cut_expression value t h)
    cut_expression (Choose site test chosen other) t h =
        cut_expression test _ (cut_expression chosen _ (cut_expression other t h))
    cut_expression (Call site g roots arguments) t h = cut_expressions arguments _ (keeps site g t h)

    cut_expressions : (es : Expressions) (t : Text) → has_cut t ≡ true →
        has_cut (expressions_before here.called es t) ≡ true
    cut_expressions none t h = h
    cut_expressions (more e es) t h = cut_expression e _ (cut_expressions es t h)

  cut_optional : (e : Option Expression) (t : Text) → has_cut t ≡ true →
      has_cut (optional_before here.called e t) ≡ true
  cut_optional None t h = h
  cut_optional (Some e) t h = cut_expression e t h

  mutual
    cut_statement : (s : Statement) (t : Text) → has_cut t ≡ true → has_cut (statement_before here s t) ≡ true
    cut_statement (Do e) t h = cut_expression e t h
    cut_statement (Declare x value) t h = cut_optional value _ h
    cut_statement (Fill site array values) t h = cut_expressions values t h
    cut_statement (Block list) t h = or_right (has_cut (statements_before here list NoText)) (has_cut t) h
    cut_statement (If site test chosen other) t h = let b = holds here.inside (If site test chosen other) in
        cut_if_keeps b _ (cut_expression test _
        (cut_if_keeps b _ (cut_statements chosen _ (cut_if_keeps b _ (cut_statements other _ (cut_if_keeps b t h))))))
    cut_statement (Loop site true test step body) t h = let b = holds here.inside (Loop site true test step body) in
        cut_if_keeps b _ (cut_optional test _
        (cut_if_keeps b _ (cut_optional step _ (cut_if_keeps b _ (cut_statement body _ (cut_if_keeps b t h))))))
    cut_statement (Loop site false test step body) t h = let b = holds here.inside (Loop site false test step body) in
        cut_if_keeps b _ (cut_statement body _
        (cut_if_keeps b _ (cut_optional step _ (cut_if_keeps b _ (cut_optional test _ (cut_if_keeps b t h))))))
    cut_statement (Switch site value arms) t h = let b = holds here.inside (Switch site value arms) in
        cut_if_keeps b _ (cut_expression value _ (cut_if_keeps b _ (cut_arms arms _ (cut_if_keeps b t h))))
    cut_statement (Break site) t h = h
    cut_statement (Continue site) t h = h
    cut_statement (Return site value) t h = cut_optional value t h
    cut_statement (Barrier site) t h = refl

    cut_statements : (list : Statements) (t : Text) → has_cut t ≡ true → has_cut (statements_before here list t) ≡ true
    cut_statements empty t h = h
    cut_statements (also s list) t h = cut_statement s _ (cut_statements list t h)

    cut_arms : (arms : Arms) (t : Text) → has_cut t ≡ true → has_cut (arms_before here arms t) ≡ true
    cut_arms no_arm t h = h
    cut_arms (arm labels other body arms) t h = cut_statements body _ (cut_arms arms t h)

  mutual
    held_expression : (e : Expression) (t : Text) → holds_in here.inside e ≡ true →
        has_cut (expression_before here.called e t) ≡ true
    held_expression (Apply action operands) t h = held_expressions operands t h
    held_expression (Update site element root op of back old index value) t h =
        elim (or_either (holds_in here.inside index) (holds_in here.inside value) h) [
          | inl a ↦
              held_expression index _ a
          | inr b ↦ cut_expression index _ (held_expression value t b)
        ]
    held_expression (Choose site test chosen other) t h =
        elim (or_either (holds_in here.inside test) _ h) [
          | inl a ↦ held_expression test _ a
          | inr b ↦ cut_expression test _
              (elim (or_either (holds_in here.inside chosen) (holds_in here.inside other) b) [
                | inl c ↦
                    held_expression chosen _ c
                | inr d ↦ cut_expression chosen _ (held_expression other t d)
              ])
        ]
    held_expression (Call site g roots arguments) t h =
        elim (or_either (holds_among here.inside arguments) (here.inside g) h) [
          | inl a ↦
              held_expressions arguments _ a
          | inr b ↦ cut_expressions arguments _ (there site g t b)
        ]

    held_expressions : (es : Expressions) (t : Text) → holds_among here.inside es ≡ true →
        has_cut (expressions_before here.called es t) ≡ true
    held_expressions none t h = cc h
    held_expressions (more e es) t h =
        elim (or_either (holds_in here.inside e) (holds_among here.inside es) h) [
          | inl a ↦
              held_expression e _ a
          | inr b ↦ cut_expression e _ (held_expressions es t b)
        ]

  held_optional : (e : Option Expression) (t : Text) → holds_in_optional here.inside e ≡ true →
      has_cut (optional_before here.called e t) ≡ true
  held_optional None t h = cc h
  held_optional (Some e) t h = held_expression e t h

  mutual
    held_statement : (s : Statement) (t : Text) → holds here.inside s ≡ true →
        has_cut (statement_before here s t) ≡ true
    held_statement (Do e) t h = held_expression e t h
    held_statement (Declare x value) t h = held_optional value _ h
    held_statement (Fill site array values) t h = held_expressions values t h
    held_statement (Block list) t h =
        or_left (has_cut (statements_before here list NoText)) (has_cut t) (held_statements list NoText h)
    held_statement (If site test chosen other) t h = cut_if_there (holds here.inside (If site test chosen other)) _ h
    held_statement (Loop site true test step body) t h =
        cut_if_there (holds here.inside (Loop site true test step body)) _ h
    held_statement (Loop site false test step body) t h =
        cut_if_there (holds here.inside (Loop site false test step body)) _ h
    held_statement (Switch site value arms) t h = cut_if_there (holds here.inside (Switch site value arms)) _ h
    held_statement (Break site) t h = cc h
    held_statement (Continue site) t h = cc h
    held_statement (Return site value) t h = held_optional value t h
    held_statement (Barrier site) t h = refl

    pub held_statements : (list : Statements) (t : Text) → some_holds here.inside list ≡ true →
        has_cut (statements_before here list t) ≡ true
    held_statements empty t h = cc h
    held_statements (also s list) t h =
        elim (or_either (holds here.inside s) (some_holds here.inside list) h) [
          | inl a ↦
              held_statement s _ a
          | inr b ↦ cut_statement s _ (held_statements list t b)
        ]
