-- Each vector statement of a statement does its steps where those of its parts do: each production.
use Rattle.std.proofs.Common.{◌≡◌, ℕ, List, [], ◌∷◌, ◌++◌, Bool, true, false, if◌then◌else◌, refl, ap, sym, ◌∙◌, subst}
use Rattle.std.proofs.lemmas.Bool.{false≢true}
use Rattle.wg_num.specs.declared.types.Place.{Place}
use Rattle.cl_model.specs.Tree.{Program}
use Rattle.cl_tree.specs.declared.tree.Form.{Form}
use Rattle.cl_tree.specs.declared.tree.Form.TheVariants as forms
use Rattle.cl_tree.specs.Syntax.{Syntax, node, Forest, none, more}
use Rattle.cl_tree.specs.Nodes.{forest1}
use Rattle.cl_meaning.specs.Environment.{Env}
use Rattle.cl_meaning.specs.Visible.{inside, later, behind, behind_parts, kind_of, opened, apart, in_block, in_loop}
use Rattle.cl_meaning.specs.Visible.{in_switch, behind_value}
use Rattle.cl_check_sound.specs.Shape.{IsExpressionOf, IsDeclarationOf, IsStatementOf}
use Rattle.cl_check_sound.proofs.Parts.{at_labels, on_labels, case_env, default_env}
use Rattle.cl_short_vec.specs.declared.roles.Role.{Role}
use Rattle.cl_short_vec.specs.declared.roles.Role.TheVariants.{Free, Head}
use Rattle.cl_short_vec.specs.Kinds.{Names}
use Rattle.cl_short_vec.specs.Kinds as kinds
use Rattle.cl_short_vec.specs.Marks.{Mark, mark, Marks, unmarked, marking, kind_by, marked, marked_parts}
use Rattle.cl_short_vec.specs.Roles.{role_of}
use Rattle.cl_short_vec.specs.Faults.{is_end, refusal_at, refusals, refusals_in}
use Rattle.cl_short_vec.specs.Scalar.{scalar}
use Rattle.cl_short_vec.specs.Unit.{is_declaration, declaration_lines, scalarised}
use Rattle.cl_short_vec_correct.specs.Each.{DeclarationDoes, PartDoes, EachDoes, PartsDo, ThroughParts, Throughout}

-- ---- no refusals

pub not_nothing : {A : Type 0} (x : A) (xs : List A) → x ∷ xs ≡ [] → ⊥
not_nothing {A} x xs e = false≢true (sym (ap some_there e))
  where
    some_there : List A → Bool
    some_there [] = false
    some_there (y ∷ ys) = true

pub nothing_front : {A : Type 0} (xs ys : List A) → xs ++ ys ≡ [] → xs ≡ []
nothing_front [] ys e = refl
nothing_front (x ∷ xs) ys e = absurd (not_nothing x (xs ++ ys) e)

pub nothing_behind : {A : Type 0} (xs ys : List A) → xs ++ ys ≡ [] → ys ≡ []
nothing_behind [] ys e = e
nothing_behind (x ∷ xs) ys e = absurd (not_nothing x (xs ++ ys) e)

-- nothing is refused in any of the parts, where no vector may stand at them
abbrev pub AllStay : Marks → Type 0
AllStay unmarked = Unit {0}
AllStay (marking m ms) = (refusals Free m ≡ []) × AllStay ms

abbrev pub parts_at : Mark → Marks
parts_at (mark t k ms) = ms

stay_in : (role : Role) (whole : Mark) (front : Bool) (ms : Marks) →
    ((x y : Bool) (p : Mark) → role_of role whole x y p ≡ Free) → refusals_in role whole front ms ≡ [] → AllStay ms
unfolding refusals_in
stay_in role whole front unmarked g e = tt
stay_in role whole front (marking p ps) g e = (
  subst (λ z. refusals z p ≡ []) (g front (is_end ps) p)
      (nothing_front (refusals (role_of role whole front (is_end ps) p) p) (refusals_in role whole false ps) e),
  stay_in role whole false ps g
      (nothing_behind (refusals (role_of role whole front (is_end ps) p) p) (refusals_in role whole false ps) e),
)

pub parts_stay : (role : Role) (m : Mark) → ((x y : Bool) (p : Mark) → role_of role m x y p ≡ Free) →
    refusals role m ≡ [] → AllStay (parts_at m)
unfolding refusals
parts_stay role (mark t k ms) g e = stay_in role (mark t k ms) true ms g
    (nothing_front (refusals_in role (mark t k ms) true ms) (refusal_at role (mark t k ms)) e)

-- the same of the parts behind the first
stay_behind : (role : Role) (whole : Mark) (ms : Marks) →
    ((y : Bool) (p : Mark) → role_of role whole false y p ≡ Free) → refusals_in role whole false ms ≡ [] → AllStay ms
unfolding refusals_in
stay_behind role whole unmarked g e = tt
stay_behind role whole (marking p ps) g e = (
  subst (λ z. refusals z p ≡ []) (g (is_end ps) p)
      (nothing_front (refusals (role_of role whole false (is_end ps) p) p) (refusals_in role whole false ps) e),
  stay_behind role whole ps g
      (nothing_behind (refusals (role_of role whole false (is_end ps) p) p) (refusals_in role whole false ps) e),
)

pub block_stays : (names : Names) (w : List ℕ) (f l : ℕ) (ps : Forest) →
    refusals Free (marked names (node forms.BlockNode w f l ps)) ≡ [] →
    AllStay (marked_parts forms.BlockNode ps names true ps)
unfolding role_of kind_by marked
block_stays names w f l ps r = parts_stay Free (marked names (node forms.BlockNode w f l ps)) (λ x y p. refl) r

pub if_stays : (names : Names) (w : List ℕ) (f l : ℕ) (ps : Forest) →
    refusals Free (marked names (node forms.IfNode w f l ps)) ≡ [] →
    AllStay (marked_parts forms.IfNode ps names true ps)
unfolding role_of kind_by marked
if_stays names w f l ps r = parts_stay Free (marked names (node forms.IfNode w f l ps)) (λ x y p. refl) r

pub while_stays : (names : Names) (w : List ℕ) (f l : ℕ) (ps : Forest) →
    refusals Free (marked names (node forms.WhileNode w f l ps)) ≡ [] →
    AllStay (marked_parts forms.WhileNode ps names true ps)
unfolding role_of kind_by marked
while_stays names w f l ps r = parts_stay Free (marked names (node forms.WhileNode w f l ps)) (λ x y p. refl) r

pub do_stays : (names : Names) (w : List ℕ) (f l : ℕ) (ps : Forest) →
    refusals Free (marked names (node forms.DoNode w f l ps)) ≡ [] →
    AllStay (marked_parts forms.DoNode ps names true ps)
unfolding role_of kind_by marked
do_stays names w f l ps r = parts_stay Free (marked names (node forms.DoNode w f l ps)) (λ x y p. refl) r

pub switch_stays : (names : Names) (w : List ℕ) (f l : ℕ) (ps : Forest) →
    refusals Free (marked names (node forms.SwitchNode w f l ps)) ≡ [] →
    AllStay (marked_parts forms.SwitchNode ps names true ps)
unfolding role_of kind_by marked
switch_stays names w f l ps r = parts_stay Free (marked names (node forms.SwitchNode w f l ps)) (λ x y p. refl) r

pub case_stays : (names : Names) (w : List ℕ) (f l : ℕ) (ps : Forest) →
    refusals Free (marked names (node forms.CaseNode w f l ps)) ≡ [] →
    AllStay (marked_parts forms.CaseNode ps names true ps)
unfolding role_of kind_by marked
case_stays names w f l ps r = parts_stay Free (marked names (node forms.CaseNode w f l ps)) (λ x y p. refl) r

pub default_stays : (names : Names) (w : List ℕ) (f l : ℕ) (ps : Forest) →
    refusals Free (marked names (node forms.DefaultNode w f l ps)) ≡ [] →
    AllStay (marked_parts forms.DefaultNode ps names true ps)
unfolding role_of kind_by marked
default_stays names w f l ps r = parts_stay Free (marked names (node forms.DefaultNode w f l ps)) (λ x y p. refl) r

-- in front of a `for` stands its head
pub for_stays : (names : Names) (w : List ℕ) (f l : ℕ) (d : Syntax) (ps : Forest) →
    refusals Free (marked names (node forms.ForNode w f l (more d ps))) ≡ [] → (refusals Head (marked names d) ≡ []) ×
    AllStay (marked_parts forms.ForNode (more d ps) (kinds.behind names d) false ps)
unfolding role_of kind_by marked marked_parts refusals refusals_in
for_stays names w f l d ps r =
    let m = marked names (node forms.ForNode w f l (more d ps)) in
    let ms = marked_parts forms.ForNode (more d ps) (kinds.behind names d) false ps in
    let both = nothing_front (refusals Head (marked names d) ++ refusals_in Free m false ms) (refusal_at Free m) r in (
      nothing_front (refusals Head (marked names d)) (refusals_in Free m false ms) both,
      stay_behind Free m ms (λ y p. refl)
          (nothing_behind (refusals Head (marked names d)) (refusals_in Free m false ms) both),
    )

-- ---- names behind expressions and statements

pub expression_names : (names : Names) (t : Syntax) → IsExpressionOf true t → kinds.behind names t ≡ names
expression_names names (node forms.DeclareNode w f l ps) h = absurd h
expression_names names (node forms.ParamsNode w f l ps) h = absurd h
expression_names names (node forms.FunctionNode w f l ps) h = absurd h
expression_names names (node form w f l ps) h = refl

pub statement_names : (names : Names) (t : Syntax) → IsStatementOf true t → kinds.behind names t ≡ names
statement_names names (node forms.DeclareNode w f l ps) h = absurd h
statement_names names (node forms.ParamsNode w f l ps) h = absurd h
statement_names names (node forms.FunctionNode w f l ps) h = absurd h
statement_names names (node form w f l ps) h = refl

pub statement_declares_not : (names : Names) (t : Syntax) → IsStatementOf true t →
    is_declaration (marked names t) ≡ false
unfolding marked
statement_declares_not names (node forms.DeclareNode w f l ps) h = absurd h
statement_declares_not names (node form w f l ps) h = refl

pub declaration_declares : (names : Names) (t : Syntax) → IsDeclarationOf true t →
    is_declaration (marked names t) ≡ true
unfolding marked
declaration_declares names (node forms.DeclareNode w f l ps) h = refl
declaration_declares names t h = absurd h

module _ (P : Program) where
  -- each vector statement in a tree does its steps
  abbrev pub Does : Names → Env → Syntax → Type 0
  Does names env t = (sites : List Place) → EachDoes P (marked names t) env sites

  abbrev pub PartsDoes : Form → Marks → (front : Bool) → Env → Type 0
  PartsDoes form ms front env = (sites : List Place) → PartsDo P ms form front env sites

  moved : (names : Names) (env env' : Env) (t : Syntax) → env' ≡ env → Does names env t → Does names env' t
  moved names env env' t e d = subst (λ z. Does names z t) (sym e) d

  pub expression_does : (names : Names) (env : Env) (t : Syntax) → IsExpressionOf true t → Does names env t
  unfolding Throughout marked
  expression_does names env (node forms.UnitNode w f l ps) h sites = absurd h
  expression_does names env (node forms.FunctionNode w f l ps) h sites = absurd h
  expression_does names env (node forms.BlockNode w f l ps) h sites = absurd h
  expression_does names env (node forms.IfNode w f l ps) h sites = absurd h
  expression_does names env (node forms.WhileNode w f l ps) h sites = absurd h
  expression_does names env (node forms.DoNode w f l ps) h sites = absurd h
  expression_does names env (node forms.ForNode w f l ps) h sites = absurd h
  expression_does names env (node forms.SwitchNode w f l ps) h sites = absurd h
  expression_does names env (node forms.CaseNode w f l ps) h sites = absurd h
  expression_does names env (node forms.DefaultNode w f l ps) h sites = absurd h
  expression_does names env (node forms.SimpleNode w f l ps) h sites = absurd h
  expression_does names env (node form w f l ps) h sites = tt

  -- ---- each production

  pub if_does : (names : Names) (env : Env) (w : List ℕ) (f l : ℕ) (c a : Syntax) → IsExpressionOf true c →
      behind (apart env) (scalarised (marked names c)) ≡ apart env →
      Does (kinds.behind names c) (apart env) a → Does names env (node forms.IfNode w f l (more c (more a none)))
  unfolding Throughout ThroughParts marked marked_parts behind_parts later inside
  if_does names env w f l c a h e k sites = (
    expression_does names (apart env) c h sites,
    (moved (kinds.behind names c) (apart env) (behind (apart env) (scalarised (marked names c))) a e k _, tt),
  )

  pub else_does : (names : Names) (env : Env) (w : List ℕ) (f l : ℕ) (c a b : Syntax) → IsExpressionOf true c →
      IsStatementOf true a → behind (apart env) (scalarised (marked names c)) ≡ apart env →
      Does (kinds.behind names c) (apart env) a →
      Does (kinds.behind (kinds.behind names c) a)
      (behind (apart env) (scalarised (marked (kinds.behind names c) a))) b →
      Does names env (node forms.IfNode w f l (more c (more a (more b none))))
  unfolding Throughout ThroughParts marked marked_parts behind_parts later inside
  else_does names env w f l c a b h i e k k' sites =
      let n = kinds.behind names c in
      let x = behind (apart env) (scalarised (marked names c)) in
      let a' = scalarised (marked n a) in (
        expression_does names (apart env) c h sites,
        (
          moved n (apart env) x a e k _,
          (moved (kinds.behind n a) (behind (apart env) a') (behind x a') b (ap (λ z. behind z a') e) k' _, tt),
        ),
      )

  pub while_does : (names : Names) (env : Env) (w : List ℕ) (f l : ℕ) (c a : Syntax) → IsExpressionOf true c →
      behind (in_loop env) (scalarised (marked names c)) ≡ in_loop env →
      Does (kinds.behind names c) (in_loop env) a → Does names env (node forms.WhileNode w f l (more c (more a none)))
  unfolding Throughout ThroughParts marked marked_parts behind_parts later inside
  while_does names env w f l c a h e k sites = (
    expression_does names (in_loop env) c h sites,
    (moved (kinds.behind names c) (in_loop env) (behind (in_loop env) (scalarised (marked names c))) a e k _, tt),
  )

  pub do_does : (names : Names) (env : Env) (w : List ℕ) (f l : ℕ) (a c : Syntax) → IsExpressionOf true c →
      Does names (in_loop env) a → Does names env (node forms.DoNode w f l (more a (more c none)))
  unfolding Throughout ThroughParts marked marked_parts behind_parts later inside
  do_does names env w f l a c h k sites = (
    k sites,
    (
      expression_does (kinds.behind names a) (behind (in_loop env) (scalarised (marked names a))) c h _,
      tt,
    ),
  )

  -- what stands for the first part of a `for`
  abbrev pub first_of_for : Names → Syntax → Syntax
  first_of_for names d =
      if is_declaration (marked names d) then scalarised (marked names d) else scalar (marked names d)

  -- behind the first part of a `for`
  abbrev pub for_env : Names → Env → Syntax → Env
  for_env names env d = behind (opened (in_loop env)) (first_of_for names d)

  pub for_does : (names : Names) (env : Env) (w : List ℕ) (f l : ℕ) (d a : Syntax) →
      Does (kinds.behind names d) (for_env names env d) a →
      Does names env (node forms.ForNode w f l (more d (more a none)))
  unfolding Throughout ThroughParts marked marked_parts behind_parts later inside
  for_does names env w f l d a k sites = (tt, (k _, tt))

  pub for1_does : (names : Names) (env : Env) (w : List ℕ) (f l : ℕ) (d e a : Syntax) → IsExpressionOf true e →
      behind (for_env names env d) (scalarised (marked (kinds.behind names d) e)) ≡ for_env names env d →
      Does (kinds.behind (kinds.behind names d) e) (for_env names env d) a →
      Does names env (node forms.ForNode w f l (more d (more e (more a none))))
  unfolding Throughout ThroughParts marked marked_parts behind_parts later inside
  for1_does names env w f l d e a h i k sites =
      let n = kinds.behind names d in
      let x = for_env names env d in (
        tt,
        (
          expression_does n x e h _,
          (moved (kinds.behind n e) x (behind x (scalarised (marked n e))) a i k _, tt),
        ),
      )

  pub for2_does : (names : Names) (env : Env) (w : List ℕ) (f l : ℕ) (d c e a : Syntax) → IsExpressionOf true c →
      IsExpressionOf true e →
      behind (for_env names env d) (scalarised (marked (kinds.behind names d) c)) ≡ for_env names env d →
      behind (for_env names env d) (scalarised (marked (kinds.behind (kinds.behind names d) c) e)) ≡
      for_env names env d →
      Does (kinds.behind (kinds.behind (kinds.behind names d) c) e) (for_env names env d) a →
      Does names env (node forms.ForNode w f l (more d (more c (more e (more a none)))))
  unfolding Throughout ThroughParts marked marked_parts behind_parts later inside
  for2_does names env w f l d c e a h h' i i' k sites =
      let n = kinds.behind names d in
      let m = kinds.behind n c in
      let x = for_env names env d in
      let y = behind x (scalarised (marked n c)) in
      let e' = scalarised (marked m e) in (
        tt,
        (
          expression_does n x c h _,
          (
            expression_does m y e h' _,
            (moved (kinds.behind m e) x (behind y e') a (ap (λ z. behind z e') i ∙ i') k _, tt),
          ),
        ),
      )

  pub switch_does : (names : Names) (env : Env) (w : List ℕ) (f l : ℕ) (v : Syntax) (ss : Forest) →
      IsExpressionOf true v → behind (in_switch env) (scalarised (marked names v)) ≡ in_switch env →
      PartsDoes forms.SwitchNode (marked_parts forms.SwitchNode (more v ss) (kinds.behind names v) false ss) false
      (at_labels env (scalarised (marked names v))) →
      Does names env (node forms.SwitchNode w f l (more v ss))
  unfolding Throughout ThroughParts marked marked_parts behind_parts later inside
  switch_does names env w f l v ss h e k sites =
      let i = in_switch env in
      let v' = scalarised (marked names v) in
      let ms = marked_parts forms.SwitchNode (more v ss) (kinds.behind names v) false ss in (
        expression_does names i v h sites,
        subst (λ (z : Env). PartsDoes forms.SwitchNode ms false (behind_value z z.labels (kind_of i v'))) (sym e) k _,
      )

  pub no_arm_does : (env : Env) → PartsDoes forms.SwitchNode unmarked false env
  unfolding ThroughParts
  no_arm_does env sites = tt

  pub arm_does : (all : Forest) (names : Names) (env : Env) (p : Syntax) (ps : Forest) → Does names env p →
      PartsDoes forms.SwitchNode (marked_parts forms.SwitchNode all (kinds.behind names p) false ps) false
      (on_labels env (scalarised (marked names p))) →
      PartsDoes forms.SwitchNode (marked_parts forms.SwitchNode all names false (more p ps)) false env
  unfolding ThroughParts marked_parts behind_parts later
  arm_does all names env p ps k q sites = (k sites, q _)

  pub case_does : (names : Names) (env : Env) (w : List ℕ) (f l : ℕ) (v a : Syntax) → IsExpressionOf true v →
      behind env (scalarised (marked names v)) ≡ env →
      Does (kinds.behind names v) (case_env env (scalarised (marked names v))) a →
      Does names env (node forms.CaseNode w f l (more v (more a none)))
  unfolding Throughout ThroughParts marked marked_parts behind_parts later inside
  case_does names env w f l v a h e k sites =
      let v' = scalarised (marked names v) in (
        expression_does names env v h sites,
        (
          moved (kinds.behind names v) (case_env env v') (case_env (behind env v') v') a
              (ap (λ z. case_env z v') e) k _,
          tt,
        ),
      )

  pub default_does : (names : Names) (env : Env) (w : List ℕ) (f l : ℕ) (a : Syntax) →
      Does names (default_env env) a → Does names env (node forms.DefaultNode w f l (more a none))
  unfolding Throughout ThroughParts marked marked_parts behind_parts later inside
  default_does names env w f l a k sites = (k sites, tt)

  pub block_does : (names : Names) (env : Env) (w : List ℕ) (f l : ℕ) (ps : Forest) →
      in_block env ≡ opened (apart env) →
      PartsDoes forms.BlockNode (marked_parts forms.BlockNode ps names true ps) true (opened (apart env)) →
      Does names env (node forms.BlockNode w f l ps)
  unfolding Throughout marked inside
  block_does names env w f l ps e k sites =
      subst (λ z. PartsDoes forms.BlockNode (marked_parts forms.BlockNode ps names true ps) true z) (sym e) k sites

  pub no_line_does : (front : Bool) (env : Env) → PartsDoes forms.BlockNode unmarked front env
  unfolding ThroughParts
  no_line_does front env sites = tt

  -- a line that is a statement, and one that is a declaration
  pub line_does : (front : Bool) (all : Forest) (names : Names) (env : Env) (p : Syntax) (ps : Forest) →
      IsStatementOf true p → Does names env p →
      PartsDoes forms.BlockNode (marked_parts forms.BlockNode all (kinds.behind names p) false ps) false
      (behind env (scalarised (marked names p))) →
      PartsDoes forms.BlockNode (marked_parts forms.BlockNode all names front (more p ps)) front env
  unfolding ThroughParts marked_parts behind_parts later
  line_does front all names env p ps h k q sites =
      let m = marked names p in
      let z = statement_declares_not names p h in
      let ms = marked_parts forms.BlockNode all (kinds.behind names p) false ps in (
        subst (λ x. PartDoes forms.BlockNode front x (DeclarationDoes P env sites m) (EachDoes P m env sites))
            (sym z) (k sites),
        subst (λ x. PartsDoes forms.BlockNode ms false
            (behind_parts env forms.BlockNode front (if x then declaration_lines m else forest1 (scalarised m))))
            (sym z) q _,
      )

  pub declared_does : (front : Bool) (all : Forest) (names : Names) (env : Env) (p : Syntax) (ps : Forest) →
      IsDeclarationOf true p → ((sites : List Place) → DeclarationDoes P env sites (marked names p)) →
      PartsDoes forms.BlockNode (marked_parts forms.BlockNode all (kinds.behind names p) false ps) false
      (behind_parts env forms.BlockNode front (declaration_lines (marked names p))) →
      PartsDoes forms.BlockNode (marked_parts forms.BlockNode all names front (more p ps)) front env
  unfolding ThroughParts marked_parts
  declared_does front all names env p ps h k q sites =
      let m = marked names p in
      let z = declaration_declares names p h in
      let ms = marked_parts forms.BlockNode all (kinds.behind names p) false ps in (
        subst (λ x. PartDoes forms.BlockNode front x (DeclarationDoes P env sites m) (EachDoes P m env sites))
            (sym z) (k sites),
        subst (λ x. PartsDoes forms.BlockNode ms false
            (behind_parts env forms.BlockNode front (if x then declaration_lines m else forest1 (scalarised m))))
            (sym z) q _,
      )

  pub idle_does : (names : Names) (env : Env) (w : List ℕ) (f l : ℕ) →
      Does names env (node forms.SimpleNode w f l none)
  unfolding Throughout marked marked_parts
  idle_does names env w f l sites = tt

  pub break_does : (names : Names) (env : Env) (w : List ℕ) (f l : ℕ) (ps : Forest) →
      Does names env (node forms.BreakNode w f l ps)
  unfolding Throughout marked
  break_does names env w f l ps sites = tt

  pub continue_does : (names : Names) (env : Env) (w : List ℕ) (f l : ℕ) (ps : Forest) →
      Does names env (node forms.ContinueNode w f l ps)
  unfolding Throughout marked
  continue_does names env w f l ps sites = tt

  pub return_does : (names : Names) (env : Env) (w : List ℕ) (f l : ℕ) (ps : Forest) →
      Does names env (node forms.ReturnNode w f l ps)
  unfolding Throughout marked
  return_does names env w f l ps sites = tt
