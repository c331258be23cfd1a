-- Each statement of a block in which no node is at fault is valid: the induction over statements.
use Rattle.std.proofs.Common.{◌≡◌, ℕ, ◌+◌, ℤ, nat_eq, List, [], ◌∷◌, length, Option, None, Some, Bool, true, false}
use Rattle.std.proofs.Common.{not, ◌||◌, if◌then◌else◌, refl, ap, sym, ◌∙◌, subst, arith}
use Rattle.std.proofs.lemmas.Bool.{false≢true}
use Rattle.wg_num.specs.declared.types.IntType.{IntType}
use Rattle.wg_num.specs.declared.types.IntType.TheVariants as types
use Rattle.wg_num.specs.declared.types.Place.{Place}
use Rattle.wg_num.specs.Wrap.{IsValue}
use Rattle.cl_model.specs.Lists.{Each, AllDiffer}
use Rattle.cl_model.specs.Tree as tree
use Rattle.cl_model.specs.Tree.{Function, Program, Expression, Statement, Statements, empty}
use Rattle.cl_model.specs.Valid.{Scope, OptionalFits, ReturnFits, StatementFits, AllFit, NamesIn}
use Rattle.cl_model.specs.Valid.{NamesInOptional, IsScoped, IsScopedList, AreScoped, ExitsFit, AllExitsFit}
use Rattle.cl_model.specs.Valid.{declarations, all_declarations, labels_of}
use Rattle.cl_model.specs.Valid as valid
use Rattle.cl_meaning.specs.Conversions.{promoted}
use Rattle.cl_tree.specs.declared.tree.Form.TheVariants as forms
use Rattle.cl_tree.specs.Syntax.{Syntax, node, Forest, none, more}
use Rattle.cl_meaning.specs.declared.fault.Fault.TheVariants as faults
use Rattle.cl_meaning.specs.declared.kind.Kind.{Kind}
use Rattle.cl_meaning.specs.declared.kind.Role.{Role}
use Rattle.cl_meaning.specs.declared.kind.Role.TheVariants as roles
use Rattle.cl_meaning.specs.declared.kind.Yield.{Yield}
use Rattle.cl_meaning.specs.declared.kind.Yield.TheVariants as yields
use Rattle.cl_meaning.specs.Environment.{Env, Variable, Array, Labels, place_of}
use Rattle.cl_meaning.specs.Kinds.{is_number}
use Rattle.cl_meaning.specs.Visible.{inside, restored, before_labels, behind, behind_parts, kind_of, kinds_of}
use Rattle.cl_meaning.specs.Visible.{visible_at, opened, apart, in_block, in_loop, in_switch, label_type}
use Rattle.cl_meaning.specs.Visible.{behind_value}
use Rattle.cl_meaning.specs.Faults.{Asked, given, return_misfits, is_whole}
use Rattle.cl_meaning.specs.Typed.{What, statement, labelled, Piece}
use Rattle.cl_meaning.specs.Expressions.{read, operand}
use Rattle.cl_meaning.specs.Statements.{alone, followed, body_of, lines_of, all_lines, returned, result_of, arms_of}
use Rattle.cl_meaning.specs.Statements.{labelled_by, for_made, second_is_test}
use Rattle.cl_meaning.specs.Meant.{MadeParts, meant, parts_meant}
use Rattle.cl_check_sound.specs.Shape.{IsExpression, IsDeclaration}
use Rattle.cl_check_sound.specs.Sound.{SoundTree}
use Rattle.cl_check_sound.proofs.Typing.{operand_typed}
use Rattle.cl_check_sound.proofs.Expressing.{kind_meant}
use Rattle.cl_check_sound.proofs.Expressions.{fits_expression}
use Rattle.cl_check_sound.proofs.Valued.{NumberOf, number_of}
use Rattle.cl_check_sound.proofs.Grown.{Extends, extends_then, Grown, within_later}
use Rattle.cl_check_sound.proofs.Growth.{declaration_grows, block_is, value_kept, simple_leaves, return_leaves}
use Rattle.cl_check_sound.proofs.Growth.{break_leaves, continue_leaves}
use Rattle.cl_check_sound.proofs.Growing.{StatementGrows, LinesGrow, SwitchGrows, first_grows, growing}
use Rattle.cl_check_sound.proofs.Naming.{expression_scoped, operand_scoped}
use Rattle.cl_check_sound.proofs.Facing.{Finals, At}
use Rattle.cl_check_sound.proofs.Lining.{all_fit_followed, exits_followed, declarations_followed, scoped_line}
use Rattle.cl_check_sound.proofs.Lining.{one_below, AllRoots, Line}
use Rattle.cl_check_sound.proofs.Labelling.{StatementLabels, BlockLabels, SwitchLabels, body_by, labelling}
use Rattle.cl_check_sound.proofs.Arms.{bodies, arms_fit, arms_scoped, arms_exit, arms_counted, arms_labels}
use Rattle.cl_check_sound.proofs.Declarators.{declaration_line}
use Rattle.cl_check_sound.proofs.Induction.{SoundNode, IsFirst, Cases}
use Rattle.cl_check_sound.proofs.Parts.{if_behind, if_built, else_behind, else_built, while_behind, while_built}
use Rattle.cl_check_sound.proofs.Parts.{do_behind, do_built, for_role, for_behind, for_built, for1_behind, for1_built}
use Rattle.cl_check_sound.proofs.Parts.{for2_behind, for2_built, at_labels, on_labels, switch_behind, switch_pieces}
use Rattle.cl_check_sound.proofs.Parts.{switch_built, on_behind, on_meant, case_env, default_env, case_behind}
use Rattle.cl_check_sound.proofs.Parts.{case_built, default_behind, default_built, break_built, continue_built}
use Rattle.cl_check_sound.proofs.Parts.{simple0_built, simple_built, return0_built, return_built, block_behind}
use Rattle.cl_check_sound.proofs.Parts.{block_built, line_behind, line_meant}
use Rattle.cl_check_sound.proofs.Stating.{Here, here_later, here_marked, here_for, here_block, here_line, Stated}
use Rattle.cl_check_sound.proofs.Stating.{idle_simple, expression_simple, simple_stated, what_is, first_line, tested}
use Rattle.cl_check_sound.proofs.Stating.{valued}

-- what is shown of lines, and of the statements of a switch
pub record LinesStated (P : Program) (f : Function) (scope : Scope) (env : Env) (ls : Statements) (later : Env) : Type
    0 where
  pub types' : AllFit P f ls
  pub scoped : IsScopedList scope ls
  pub exits : (x y : Bool) → env.in_loop ≡ x → (env.in_loop || env.in_switch) ≡ y → AllExitsFit x y ls
  pub declared : (n : ℕ) → all_declarations ls n + one_below n (length env.variables) ≡
      one_below n (length later.variables)
  pub roots : AllRoots P f env.variables → AllRoots P f later.variables

pub record SwitchStated (P : Program) (f : Function) (scope : Scope) (env : Env) (ps : List Piece)
    (later : Env) : Type 0 where
  pub types' : AllFit P f (bodies ps)
  pub scoped : AreScoped scope (bodies ps)
  pub exits : (x y : Bool) → env.in_loop ≡ x → (env.in_loop || env.in_switch) ≡ y → AllExitsFit x y (bodies ps)
  pub declared : (n : ℕ) → all_declarations (bodies ps) n + one_below n (length env.variables) ≡
      one_below n (length later.variables)
  pub roots : AllRoots P f env.variables → AllRoots P f later.variables

stated_so : (P : Program) (f : Function) (scope : Scope) (env later z : Env) (w w' : What) → later ≡ z → w ≡ w' →
    Stated P f scope env w' z → Stated P f scope env w later
stated_so P f scope env later z w w' e h x =
    subst (λ y. Stated P f scope env w y) (sym e) (subst (λ y. Stated P f scope env y z) (sym h) x)

one_by : (ls : List ℤ) (o : Bool) (w : What) → lines_of (labelled_by ls o w) ≡ alone (body_of (labelled_by ls o w))
one_by ls o (labelled ls' o' s) = refl
one_by ls o w = refl

promoted_same : (t : IntType) → promoted t ≡ valid.promoted t
promoted_same types.Bool = refl
promoted_same types.Char = refl
promoted_same types.Uchar = refl
promoted_same types.Short = refl
promoted_same types.Ushort = refl
promoted_same types.Int = refl
promoted_same types.Uint = refl
promoted_same types.Long = refl
promoted_same types.Ulong = refl

or_true : (b : Bool) → (b || true) ≡ true
or_true true = refl
or_true false = refl

not_is : (b : Bool) → not b ≡ false → b ≡ true
not_is true h = refl
not_is false h = absurd (false≢true (sym h))

break_fault : (asked : Asked) (env : Env) (role : Role) (w : List ℕ) (f l : ℕ) →
    SoundNode asked env role (node forms.BreakNode w f l none) → not (env.in_loop || env.in_switch) ≡ false
unfolding restored
break_fault asked env role w f l s = s faults.Misplaced

continue_fault : (asked : Asked) (env : Env) (role : Role) (w : List ℕ) (f l : ℕ) →
    SoundNode asked env role (node forms.ContinueNode w f l none) → not env.in_loop ≡ false
unfolding restored
continue_fault asked env role w f l s = s faults.Misplaced

return0_fault : (asked : Asked) (env : Env) (role : Role) (w : List ℕ) (f l : ℕ) →
    SoundNode asked env role (node forms.ReturnNode w f l none) → return_misfits env.owner.result [] ≡ false
unfolding restored kinds_of
return0_fault asked env role w f l s = s faults.ReturnFit

return_fault : (asked : Asked) (env : Env) (role : Role) (w : List ℕ) (f l : ℕ) (e : Syntax) →
    SoundNode asked env role (node forms.ReturnNode w f l (more e none)) →
    return_misfits env.owner.result (kind_of env e ∷ []) ≡ false
unfolding restored kinds_of inside
return_fault asked env role w f l e s = s faults.ReturnFit

returns_nothing : (P : Program) (f : Function) (scope : Scope) (y : Yield) → f.result ≡ result_of y →
    return_misfits y [] ≡ false → ReturnFits P f f.result (returned y []) × NamesInOptional scope (returned y [])
returns_nothing P f scope yields.Nothing e h = (subst (λ z. ReturnFits P f z None) (sym e) tt, tt)
returns_nothing P f scope (yields.Number t) e h = absurd (false≢true (sym h))
returns_nothing P f scope yields.Outside e h = absurd (false≢true (sym h))

returns_value : (P : Program) (f : Function) (scope : Scope) (y : Yield) (p : Piece) → f.result ≡ result_of y →
    (given p.kind (λ k. not (is_number k)) ≡ false → NumberOf P f p) → NamesIn scope (read p.what) →
    return_misfits y (p.kind ∷ []) ≡ false →
    ReturnFits P f f.result (returned y (p ∷ [])) × NamesInOptional scope (returned y (p ∷ []))
returns_value P f scope yields.Nothing p e g n h = absurd (false≢true (sym h))
returns_value P f scope (yields.Number t) p e g n h =
    let x = g h in (
      subst (λ z. ReturnFits P f z (Some (operand t p))) (sym e)
          (operand_typed P f t x.type' x.reach' p x.known x.typed),
      operand_scoped scope t p n,
    )
returns_value P f scope yields.Outside p e g n h = (subst (λ z. ReturnFits P f z None) (sym e) tt, tt)

whole_role : (d e : Syntax) → is_whole (for_role d e) ≡ false
whole_role d e = by (nat_eq _ _)
  where
    by : (b : Bool) → is_whole (if b then roles.Tested else roles.Other) ≡ false
    by true = refl
    by false = refl

value_same : (env : Env) (ls : Option Labels) (k : Option Kind) → (behind_value env ls k).variables ≡ env.variables
value_same env None k = refl
value_same env (Some l) k = refl

module _ (P : Program) (f : Function) (asked : Asked) (vars : List Variable) (arrs : List Array)
    (fin : Finals f vars arrs) where
  -- all that is declared there is there in the end
  abbrev pub Ends : Env → Type 0
  Ends env = Extends env.variables vars × Extends env.arrays arrs

  ends_before : (env later : Env) → Grown env later → Ends later → Ends env
  ends_before env later g e = (
    extends_then env.variables later.variables vars g.variables e.0,
    extends_then env.arrays later.arrays arrs g.arrays e.1,
  )

  abbrev pub Good : Env → List Place → Syntax → Type 0
  Good env sites t = (scope : Scope) → Here P f asked.missing scope env → Ends (behind env t) →
      Stated P f scope env (meant env sites t).piece.what (behind env t)

  abbrev pub GoodLines : Env → List Place → Forest → Type 0
  GoodLines env sites parts = (front : Bool) (scope : Scope) → Here P f asked.missing scope env →
      Ends (behind_parts env forms.BlockNode front parts) →
      LinesStated P f scope env (all_lines (parts_meant env forms.BlockNode front sites parts).pieces)
      (behind_parts env forms.BlockNode front parts)

  abbrev pub GoodSwitch : Env → List Place → Forest → Type 0
  GoodSwitch env sites parts = (front : Bool) (scope : Scope) → Here P f asked.missing scope env →
      Ends (behind_parts env forms.SwitchNode front parts) →
      SwitchStated P f scope env (parts_meant env forms.SwitchNode front sites parts).pieces
      (behind_parts env forms.SwitchNode front parts)

  -- with what it leaves, and its labels
  abbrev pub StatementGood : Env → List Place → Syntax → Type 0
  StatementGood env sites t = StatementGrows env sites t × StatementLabels env sites t × Good env sites t

  abbrev pub LinesGood : Env → List Place → Forest → Type 0
  LinesGood env sites parts = LinesGrow env sites parts × BlockLabels env sites parts × GoodLines env sites parts

  abbrev pub SwitchGood : Env → List Place → Forest → Type 0
  SwitchGood env sites parts = SwitchGrows env sites parts × SwitchLabels env sites parts × GoodSwitch env sites parts

  here_apart : (scope : Scope) (env : Env) → Here P f asked.missing scope env → Here P f asked.missing scope (apart env)
  here_apart scope env h = here_marked P f asked.missing scope env (apart env) refl refl refl refl refl h

  here_loop : (scope : Scope) (env : Env) → Here P f asked.missing scope env →
      Here P f asked.missing scope (in_loop env)
  here_loop scope env h = here_marked P f asked.missing scope env (in_loop env) refl refl refl refl refl h

  if_good : (env : Env) (sites : List Place) (w : List ℕ) (f' l : ℕ) (c a : Syntax) → IsExpression c →
      SoundTree asked (apart env) roles.Tested c → Good (apart env) (meant (apart env) sites c).sites a →
      Good env sites (node forms.IfNode w f' l (more c (more a none)))
  if_good env sites w f' l c a h s k scope here ends =
      let i = apart env in
      let be = if_behind env w f' l c a h in
      let hi = here_apart scope env here in
      let tc = tested P f asked scope i sites c h s hi.at in
      let x = k scope hi (subst Ends be ends) in
      stated_so P f scope env _ (before_labels env (behind i a)) _ _ be (what_is (if_built env sites w f' l c a h))
      (record {
        types' = ((tc.number.type', tc.number.typed), (x.types', tt), tt);
        scoped = (tc.names, (x.scoped, tt), tt);
        exits = λ u v d e. ((x.exits u v d e, tt), tt);
        declared = λ n. (let q = x.declared n in omega arith);
        roots = x.roots;
        one = refl;
      })

  else_good : (env : Env) (sites : List Place) (w : List ℕ) (f' l : ℕ) (c a b : Syntax) → IsExpression c →
      SoundTree asked (apart env) roles.Tested c → StatementGood (apart env) (meant (apart env) sites c).sites a →
      StatementGood (behind (apart env) a) (meant (apart env) (meant (apart env) sites c).sites a).sites b →
      Good env sites (node forms.IfNode w f' l (more c (more a (more b none))))
  else_good env sites w f' l c a b h s k k' scope here ends =
      let i = apart env in
      let be = else_behind env w f' l c a b h in
      let hi = here_apart scope env here in
      let tc = tested P f asked scope i sites c h s hi.at in
      let ga = k.0 hi.within in
      let hb = here_later P f asked.missing scope i (behind i a) ga hi in
      let gb = k'.0 hb.within in
      let e2 = subst Ends be ends in
      let x = k.2 scope hi (ends_before (behind i a) (behind (behind i a) b) gb.grown e2) in
      let y = k'.2 scope hb e2 in
      stated_so P f scope env _ (before_labels env (behind (behind i a) b)) _ _ be
      (what_is (else_built env sites w f' l c a b h)) (record {
        types' = ((tc.number.type', tc.number.typed), (x.types', tt), (y.types', tt));
        scoped = (tc.names, (x.scoped, tt), (y.scoped, tt));
        exits = λ u v d e. (
          (x.exits u v d e, tt),
          (
            y.exits u v (ap (λ z. z.in_loop) ga.grown.frame ∙
                d) (ap (λ z. z.in_loop || z.in_switch) ga.grown.frame ∙ e),
            tt,
          ),
        );
        declared = λ n. (let q = x.declared n in let r = y.declared n in omega arith);
        roots = λ r. y.roots (x.roots r);
        one = refl;
      })

  while_good : (env : Env) (sites : List Place) (w : List ℕ) (f' l : ℕ) (c a : Syntax) → IsExpression c →
      SoundTree asked (in_loop env) roles.Tested c → Good (in_loop env) (meant (in_loop env) sites c).sites a →
      Good env sites (node forms.WhileNode w f' l (more c (more a none)))
  while_good env sites w f' l c a h s k scope here ends =
      let i = in_loop env in
      let be = while_behind env w f' l c a h in
      let hi = here_loop scope env here in
      let tc = tested P f asked scope i sites c h s hi.at in
      let x = k scope hi (subst Ends be ends) in
      stated_so P f scope env _ (before_labels env (behind i a)) _ _ be (what_is (while_built env sites w f' l c a h))
      (record {
        types' = ((tc.number.type', tc.number.typed), tt, x.types');
        scoped = (tc.names, tt, x.scoped);
        exits = λ u v d e. x.exits true true refl refl;
        declared = λ n. x.declared n;
        roots = x.roots;
        one = refl;
      })

  do_good : (env : Env) (sites : List Place) (w : List ℕ) (f' l : ℕ) (a c : Syntax) → IsExpression c →
      StatementGood (in_loop env) sites a → SoundTree asked (behind (in_loop env) a) roles.Tested c →
      Good env sites (node forms.DoNode w f' l (more a (more c none)))
  do_good env sites w f' l a c h k s scope here ends =
      let i = in_loop env in
      let be = do_behind env w f' l a c h in
      let hi = here_loop scope env here in
      let x = k.2 scope hi (subst Ends be ends) in
      let hc = here_later P f asked.missing scope i (behind i a) (k.0 hi.within) hi in
      let tc = tested P f asked scope (behind i a) (meant i sites a).sites c h s hc.at in
      stated_so P f scope env _ (before_labels env (behind i a)) _ _ be (what_is (do_built env sites w f' l a c))
      (record {
        types' = ((tc.number.type', tc.number.typed), tt, x.types');
        scoped = (tc.names, tt, x.scoped);
        exits = λ u v d e. x.exits true true refl refl;
        declared = λ n. x.declared n;
        roots = x.roots;
        one = refl;
      })

  -- a test or a step that fits, wherever a declaration leads
  abbrev OptionGood : Env → Option Expression → Type 0
  OptionGood env o = (scope : Scope) → At P f asked.missing scope env → OptionalFits P f o × NamesInOptional scope o

  for_body : (env later : Env) (w : What) (sites s' : List Place) (place : Place) (d a : Syntax)
      (test step : Option Expression) → IsFirst d → SoundTree asked (opened (in_loop env)) roles.Other d →
      StatementGood (behind (opened (in_loop env)) d) s' a → OptionGood (behind (opened (in_loop env)) d) test →
      OptionGood (behind (opened (in_loop env)) d) step →
      later ≡ before_labels env (behind (behind (opened (in_loop env)) d) a) →
      w ≡ (for_made place (meant (behind (opened (in_loop env)) d) s' a).sites
      (meant (opened (in_loop env)) sites d).piece test step
      (meant (behind (opened (in_loop env)) d) s' a).piece).what →
      (scope : Scope) → Here P f asked.missing scope env → Ends later → Stated P f scope env w later
  for_body env later w sites s' place d a test step h s k gt gs be we scope here ends =
      let i = opened (in_loop env) in
      let m = behind i d in
      let hi = here_for P f asked.missing scope env here in
      let g = first_grows asked i roles.Other d h s hi.within.deep in
      let wm = within_later i m hi.within g in
      let ga = k.0 wm in
      let e2 = subst Ends be ends in
      let e1 = ends_before m (behind m a) ga.grown e2 in
      let x = first_line P f asked vars arrs scope i sites roles.Other d h s hi.within.deep hi.at fin e1.0 e1.1 in
      let hm = here_line P f asked.missing scope i m (lines_of (meant i sites d).piece.what) g x hi in
      let y = k.2 x.scope' hm e2 in
      let ot = gt x.scope' x.at in
      let os = gs x.scope' x.at in
      let ls = lines_of (meant i sites d).piece.what in
      let loop = tree.Loop (length (meant m s' a).sites) true test step (body_of (meant m s' a).piece.what) in
      let inl' : m.in_loop ≡ true = ap (λ z. z.in_loop) g.frame in
      let ine : (m.in_loop || m.in_switch) ≡ true = ap (λ z. z.in_loop || z.in_switch) g.frame in
      stated_so P f scope env later (before_labels env (behind m a)) w _ be we (record {
        types' = all_fit_followed P f ls (alone loop) x.types' ((ot.0, os.0, y.types'), tt);
        scoped = x.scoped (alone loop) ((ot.1, os.1, y.scoped), tt);
        exits = λ u v p q. exits_followed u v ls (alone loop) (x.exits u v) (y.exits true true inl' ine, tt);
        declared = λ n. (let r = x.declared n in let t = y.declared n in
            let z = declarations_followed ls (alone loop) n in omega arith);
        roots = λ r. y.roots (x.roots r);
        one = refl;
      })

  no_option : (env : Env) → OptionGood env None
  no_option env scope at = (tt, tt)

  some_option : (env : Env) (sites : List Place) (role : Role) (e : Syntax) → IsExpression e →
      SoundTree asked env role e → is_whole role ≡ false → OptionGood env (Some (read (meant env sites e).piece.what))
  some_option env sites role e h s r scope at = let v =
      valued P f asked scope env sites role e h s r at in (v.has, v.names)

  for_one_good : (env : Env) (sites : List Place) (w : List ℕ) (f' l : ℕ) (d e a : Syntax) → IsFirst d →
      SoundTree asked (opened (in_loop env)) roles.Other d → IsExpression e →
      SoundTree asked (behind (opened (in_loop env)) d) (for_role d e) e →
      StatementGood (behind (opened (in_loop env)) d)
      (meant (behind (opened (in_loop env)) d) (meant (opened (in_loop env)) sites d).sites e).sites a →
      Good env sites (node forms.ForNode w f' l (more d (more e (more a none))))
  for_one_good env sites w f' l d e a h s he se k =
      by (second_is_test (more d (more e (more a none)))) (what_is (for1_built env sites w f' l d e a he))
    where
      t : Syntax
      t = node forms.ForNode w f' l (more d (more e (more a none)))

      m : Env
      m = behind (opened (in_loop env)) d

      s1 : List Place
      s1 = (meant (opened (in_loop env)) sites d).sites

      s2 : List Place
      s2 = (meant m s1 e).sites

      place : Place
      place = place_of (visible_at env t) f'

      o : OptionGood m (Some (read (meant m s1 e).piece.what))
      o = some_option m s1 (for_role d e) e he se (whole_role d e)

      by : (b : Bool) → (meant env sites t).piece.what ≡ (if b
          then for_made place (meant m s2 a).sites (meant (opened (in_loop env)) sites d).piece
          (Some (read (meant m s1 e).piece.what)) None (meant m s2 a).piece
          else for_made place (meant m s2 a).sites (meant (opened (in_loop env)) sites d).piece None
          (Some (read (meant m s1 e).piece.what)) (meant m s2 a).piece).what →
          (scope : Scope) → Here P f asked.missing scope env → Ends (behind env t) →
          Stated P f scope env (meant env sites t).piece.what (behind env t)
      by true we = for_body env (behind env t) (meant env sites t).piece.what sites s2 place d a
          (Some (read (meant m s1 e).piece.what)) None h s k o (no_option m) (for1_behind env w f' l d e a he) we
      by false we = for_body env (behind env t) (meant env sites t).piece.what sites s2 place d a None
          (Some (read (meant m s1 e).piece.what)) h s k (no_option m) o (for1_behind env w f' l d e a he) we

  for_both_good : (env : Env) (sites : List Place) (w : List ℕ) (f' l : ℕ) (d c e a : Syntax) → IsFirst d →
      SoundTree asked (opened (in_loop env)) roles.Other d → IsExpression c →
      SoundTree asked (behind (opened (in_loop env)) d) (for_role d c) c → IsExpression e →
      SoundTree asked (behind (opened (in_loop env)) d) (for_role c e) e →
      StatementGood (behind (opened (in_loop env)) d)
      (meant (behind (opened (in_loop env)) d)
      (meant (behind (opened (in_loop env)) d) (meant (opened (in_loop env)) sites d).sites c).sites e).sites
      a → Good env sites (node forms.ForNode w f' l (more d (more c (more e (more a none)))))
  for_both_good env sites w f' l d c e a h s hc sc he se k =
      let i = opened (in_loop env) in
      let m = behind i d in
      let s1 = (meant i sites d).sites in
      let s2 = (meant m s1 c).sites in
      let s3 = (meant m s2 e).sites in
      let t = node forms.ForNode w f' l (more d (more c (more e (more a none)))) in
      for_body env (behind env t) (meant env sites t).piece.what sites s3 (place_of (visible_at env t) f') d a
      (Some (read (meant m s1 c).piece.what)) (Some (read (meant m s2 e).piece.what)) h s k
      (some_option m s1 (for_role d c) c hc sc (whole_role d c))
      (some_option m s2 (for_role c e) e he se (whole_role c e)) (for2_behind env w f' l d c e a hc he)
      (what_is (for2_built env sites w f' l d c e a hc he))

  for_ever_good : (env : Env) (sites : List Place) (w : List ℕ) (f' l : ℕ) (d a : Syntax) → IsFirst d →
      SoundTree asked (opened (in_loop env)) roles.Other d →
      StatementGood (behind (opened (in_loop env)) d) (meant (opened (in_loop env)) sites d).sites a →
      Good env sites (node forms.ForNode w f' l (more d (more a none)))
  for_ever_good env sites w f' l d a h s k =
      let i = opened (in_loop env) in
      let t = node forms.ForNode w f' l (more d (more a none)) in
      for_body env (behind env t) (meant env sites t).piece.what sites (meant i sites d).sites
      (place_of (visible_at env t) f') d a None None h s k (no_option (behind i d)) (no_option (behind i d))
      (for_behind env w f' l d a) (what_is (for_built env sites w f' l d a))

  switch_good : (env : Env) (sites : List Place) (w : List ℕ) (f' l : ℕ) (v : Syntax) (ss : Forest) → IsExpression v →
      SoundTree asked (in_switch env) roles.Tested v →
      SwitchGood (at_labels env v) (meant (in_switch env) sites v).sites ss →
      Good env sites (node forms.SwitchNode w f' l (more v ss))
  switch_good env sites w f' l v ss h s k scope here ends =
      let i = in_switch env in
      let e1 = at_labels env v in
      let be = switch_behind env w f' l v ss h in
      let hi = here_marked P f asked.missing scope env i refl refl refl refl refl here in
      let h1 = here_marked P f asked.missing scope i e1 refl refl refl refl refl hi in
      let tv = tested P f asked scope i sites v h s hi.at in
      let x = k.2 false scope h1 (subst Ends be ends) in
      let ps = (switch_pieces env sites v ss).pieces in
      let y = k.1 false (record { of = label_type (kind_of i v); values = []; other = false }) refl in
      let al = arms_labels ps in
      let of' : label_type (kind_of i v) ≡ valid.promoted tv.number.type' =
      ap label_type (sym (kind_meant i sites v) ∙ tv.number.known) ∙ promoted_same tv.number.type' in
      let fit = subst (λ z. Each (λ u. IsValue z u) (labels_of (arms_of ps))) of'
      (subst (λ z. Each (λ u. IsValue (label_type (kind_of i v)) u) z) (sym al.0) y.fit) in
      let z1 = y.once in
      let z2 = al.1 in
      stated_so P f scope env _ (before_labels env (behind_parts e1 forms.SwitchNode false ss)) _ _ be
      (what_is (switch_built env sites w f' l v ss h)) (record {
        types' = (
          (tv.number.type', tv.number.typed, fit),
          subst AllDiffer (sym al.0) (y.fresh tt),
          omega arith,
          arms_fit P f ps x.types',
        );
        scoped = (tv.names, arms_scoped scope ps x.scoped);
        exits = λ p q d e. arms_exit p true ps (x.exits p true d (or_true env.in_loop));
        declared = λ n. (let g = x.declared n in let c = arms_counted n ps in omega arith);
        roots = x.roots;
        one = refl;
      })

  -- a label in front of a statement
  label_good : (scope : Scope) (env i later : Env) (ls : List ℤ) (o : Bool) (w : What) → i.in_loop ≡ env.in_loop →
      (i.in_loop || i.in_switch) ≡ (env.in_loop || env.in_switch) → i.variables ≡ env.variables →
      Stated P f scope i w later → Stated P f scope env (labelled_by ls o w)
      (record (before_labels env later) { labels = later.labels })
  label_good scope env i later ls o w a b v x = record {
    types' = subst (StatementFits P f) (sym (body_by ls o w)) x.types';
    scoped = subst (IsScoped scope) (sym (body_by ls o w)) x.scoped;
    exits = λ p q d e. subst (ExitsFit p q) (sym (body_by ls o w)) (x.exits p q (a ∙ d) (b ∙ e));
    declared = λ n. subst (λ z. declarations z n + one_below n (length env.variables) ≡
        one_below n (length later.variables)) (sym (body_by ls o w))
        (subst (λ z. declarations (body_of w) n + one_below n (length z) ≡ one_below n (length later.variables)) v
        (x.declared n));
    roots = subst (λ z. AllRoots P f z → AllRoots P f later.variables) v x.roots;
    one = one_by ls o w;
  }

  case_good : (env : Env) (sites : List Place) (w : List ℕ) (f' l : ℕ) (v a : Syntax) → IsExpression v →
      Good (case_env env v) (meant env sites v).sites a →
      Good env sites (node forms.CaseNode w f' l (more v (more a none)))
  case_good env sites w f' l v a h k scope here ends =
      let i = case_env env v in
      let be = case_behind env w f' l v a h in
      let x = k scope (here_marked P f asked.missing scope env i refl refl refl refl refl here) (subst Ends be ends) in
      stated_so P f scope env _ (record (before_labels env (behind i a)) { labels = (behind i a).labels }) _ _ be
      (what_is (case_built env sites w f' l v a h)) (label_good scope env i (behind i a) _ false _ refl refl refl x)

  default_good : (env : Env) (sites : List Place) (w : List ℕ) (f' l : ℕ) (a : Syntax) →
      Good (default_env env) sites a → Good env sites (node forms.DefaultNode w f' l (more a none))
  default_good env sites w f' l a k scope here ends =
      let i = default_env env in
      let be = default_behind env w f' l a in
      let x = k scope (here_marked P f asked.missing scope env i refl refl refl refl refl here) (subst Ends be ends) in
      stated_so P f scope env _ (record (before_labels env (behind i a)) { labels = (behind i a).labels }) _ _ be
      (what_is (default_built env sites w f' l a)) (label_good scope env i (behind i a) _ true _ refl refl refl x)

  -- a statement that leaves everything as it was
  leaf_good : (scope : Scope) (env later : Env) (w : What) (s : Statement) → later ≡ env → w ≡ statement s →
      StatementFits P f s → IsScoped scope s → ((x y : Bool) → env.in_loop ≡ x → (env.in_loop || env.in_switch) ≡ y →
      ExitsFit x y s) → ((n : ℕ) → declarations s n ≡ 0) → Stated P f scope env w later
  leaf_good scope env later w s be we t sc ex z =
      stated_so P f scope env later env w (statement s) be we (record {
        types' = t;
        scoped = sc;
        exits = ex;
        declared = λ n. (let q = z n in omega arith);
        roots = λ r. r;
        one = refl;
      })

  block_good : (env : Env) (sites : List Place) (w : List ℕ) (f' l : ℕ) (parts : Forest) →
      LinesGood (in_block env) sites parts → Good env sites (node forms.BlockNode w f' l parts)
  block_good env sites w f' l parts k scope here ends =
      let i = opened (apart env) in
      let be = block_behind env w f' l parts here.within.in_block in
      let k' = subst (λ z. GoodLines z sites parts) (block_is env here.within.in_block) k.2 in
      let x = k' true scope (here_block P f asked.missing scope env here) (subst Ends be ends) in
      stated_so P f scope env _ (before_labels env (behind_parts i forms.BlockNode true parts)) _ _ be
      (what_is (block_built env sites w f' l parts here.within.in_block))
      (record {
        types' = x.types';
        scoped = x.scoped;
        exits = x.exits;
        declared = x.declared;
        roots = x.roots;
        one = refl;
      })

  return1_good : (env : Env) (sites : List Place) (role : Role) (w : List ℕ) (f' l : ℕ) (e : Syntax) →
      IsExpression e → SoundTree asked env roles.Other e →
      SoundNode asked env role (node forms.ReturnNode w f' l (more e none)) →
      Good env sites (node forms.ReturnNode w f' l (more e none))
  return1_good env sites role w f' l e h s n scope here ends =
      let p = (meant env sites e).piece in
      let x = fits_expression P f asked env roles.Other sites e h s here.at.fits in
      let r = returns_value P f scope env.owner.result p here.result (λ g. number_of P f p x g)
      (expression_scoped scope env sites e h here.at.seen)
      (subst (λ z. return_misfits env.owner.result (z ∷ []) ≡ false) (sym (kind_meant env sites e))
      (return_fault asked env role w f' l e n)) in
      leaf_good scope env _ _ _ (return_leaves env w f' l (more e none) h) (what_is (return_built env sites w f' l e))
      r.0 r.1 (λ x y d g. tt) (λ n. refl)

  return0_good : (env : Env) (sites : List Place) (role : Role) (w : List ℕ) (f' l : ℕ) →
      SoundNode asked env role (node forms.ReturnNode w f' l none) → Good env sites (node forms.ReturnNode w f' l none)
  return0_good env sites role w f' l n scope here ends =
      let r = returns_nothing P f scope env.owner.result here.result (return0_fault asked env role w f' l n) in
      leaf_good scope env _ _ _ (return_leaves env w f' l none tt) (what_is (return0_built env sites w f' l)) r.0 r.1
      (λ x y d g. tt) (λ n. refl)

  -- ---- lines

  lines_so : (scope : Scope) (env later z : Env) (ls ls' : Statements) → later ≡ z → ls ≡ ls' →
      LinesStated P f scope env ls' z → LinesStated P f scope env ls later
  lines_so scope env later z ls ls' e h x =
      subst (λ y. LinesStated P f scope env ls y) (sym e) (subst (λ y. LinesStated P f scope env y z) (sym h) x)

  lines_more : (scope : Scope) (env mid later : Env) (ls rest : Statements) → Grown env mid →
      (x : Line P f asked.missing scope env ls mid) → LinesStated P f x.scope' mid rest later →
      LinesStated P f scope env (followed ls rest) later
  lines_more scope env mid later ls rest g x y = record {
    types' = all_fit_followed P f ls rest x.types' y.types';
    scoped = x.scoped rest y.scoped;
    exits = λ u v d e. exits_followed u v ls rest (x.exits u v) (y.exits u v (ap (λ z. z.in_loop) g.frame ∙
        d) (ap (λ z. z.in_loop || z.in_switch) g.frame ∙ e));
    declared =
        λ n. (let a = x.declared n in let b = y.declared n in let c = declarations_followed ls rest n in omega arith);
    roots = λ r. y.roots (x.roots r);
  }

  statement_more : (scope : Scope) (env mid later : Env) (w : What) (rest : Statements) → Grown env mid →
      Stated P f scope env w mid → LinesStated P f scope mid rest later →
      LinesStated P f scope env (followed (lines_of w) rest) later
  statement_more scope env mid later w rest g x y =
      subst (λ z. LinesStated P f scope env (followed z rest) later) (sym x.one) (record {
        types' = (x.types', y.types');
        scoped = scoped_line scope (body_of w) rest x.scoped y.scoped;
        exits = λ u v d e. (
          x.exits u v d e,
          y.exits u v (ap (λ z. z.in_loop) g.frame ∙ d) (ap (λ z. z.in_loop || z.in_switch) g.frame ∙ e),
        );
        declared = λ n. (let a = x.declared n in let b = y.declared n in omega arith);
        roots = λ r. y.roots (x.roots r);
      })

  no_lines : (env : Env) (sites : List Place) (front : Bool) → (behind_parts env forms.BlockNode front none ≡ env) ×
      ((parts_meant env forms.BlockNode front sites none).pieces ≡ [])
  unfolding behind_parts parts_meant
  no_lines env sites front = (refl, refl)

  none_good : (env : Env) (sites : List Place) → GoodLines env sites none
  none_good env sites front scope here ends =
      lines_so scope env _ env _ empty (no_lines env sites front).0 (ap all_lines (no_lines env sites front).1)
      (record { types' = tt; scoped = tt; exits = λ x y d e. tt; declared = λ n. omega arith; roots = λ r. r })

  declared_good : (env : Env) (sites : List Place) (d : Syntax) (ps : Forest) → IsDeclaration d →
      SoundTree asked env roles.Other d → LinesGood (behind env d) (meant env sites d).sites ps →
      GoodLines env sites (more d ps)
  declared_good env sites d ps h s q front scope here ends =
      let m = behind env d in
      let g = declaration_grows asked env roles.Other d h s here.within.deep in
      let lb = line_behind env front d ps in
      let e2 = subst Ends lb ends in
      let e1 =
      ends_before m (behind_parts m forms.BlockNode false ps) (q.0 (within_later env m here.within g) false) e2 in
      let x = declaration_line P f asked vars arrs scope env sites roles.Other d h s here.within.deep here.at fin e1.0
      e1.1 in
      let y = q.2 false x.scope' (here_line P f asked.missing scope env m (lines_of (meant env sites d).piece.what) g
      x here) e2 in
      lines_so scope env _ (behind_parts m forms.BlockNode false ps) _ _ lb
      (ap (λ (z : MadeParts). all_lines z.pieces) (line_meant env front sites d ps))
      (lines_more scope env m (behind_parts m forms.BlockNode false ps) (lines_of (meant env sites d).piece.what)
      (all_lines (parts_meant m forms.BlockNode false (meant env sites d).sites ps).pieces) g x y)

  line_good : (env : Env) (sites : List Place) (t : Syntax) (ps : Forest) → StatementGood env sites t →
      LinesGood (behind env t) (meant env sites t).sites ps → GoodLines env sites (more t ps)
  line_good env sites t ps k q front scope here ends =
      let m = behind env t in
      let g = k.0 here.within in
      let lb = line_behind env front t ps in
      let e2 = subst Ends lb ends in
      let e1 = ends_before m (behind_parts m forms.BlockNode false ps)
      (q.0 (within_later env m here.within g.grown) false) e2 in
      let x = k.2 scope here e1 in
      let y = q.2 false scope (here_later P f asked.missing scope env m g here) e2 in
      lines_so scope env _ (behind_parts m forms.BlockNode false ps) _ _ lb
      (ap (λ (z : MadeParts). all_lines z.pieces) (line_meant env front sites t ps))
      (statement_more scope env m (behind_parts m forms.BlockNode false ps) (meant env sites t).piece.what
      (all_lines (parts_meant m forms.BlockNode false (meant env sites t).sites ps).pieces) g.grown x y)

  -- ---- the statements of a switch

  switch_so : (scope : Scope) (env later z : Env) (ps ps' : List Piece) → later ≡ z → ps ≡ ps' →
      SwitchStated P f scope env ps' z → SwitchStated P f scope env ps later
  switch_so scope env later z ps ps' e h x =
      subst (λ y. SwitchStated P f scope env ps y) (sym e) (subst (λ y. SwitchStated P f scope env y z) (sym h) x)

  no_arms : (env : Env) (sites : List Place) (front : Bool) → (behind_parts env forms.SwitchNode front none ≡ env) ×
      ((parts_meant env forms.SwitchNode front sites none).pieces ≡ [])
  unfolding behind_parts parts_meant
  no_arms env sites front = (refl, refl)

  no_arm_good : (env : Env) (sites : List Place) → GoodSwitch env sites none
  no_arm_good env sites front scope here ends =
      switch_so scope env _ env _ [] (no_arms env sites front).0 (no_arms env sites front).1 (record {
        types' = tt;
        scoped = tt;
        exits = λ x y d e. tt;
        declared = λ n. omega arith;
        roots = λ r. r;
      })

  arm_good : (env : Env) (sites : List Place) (t : Syntax) (ps : Forest) → StatementGood env sites t →
      SwitchGood (on_labels env t) (meant env sites t).sites ps → GoodSwitch env sites (more t ps)
  arm_good env sites t ps k q front scope here ends =
      let m = behind env t in
      let o = on_labels env t in
      let g = k.0 here.within in
      let v = value_kept m m.labels (kind_of env t) in
      let hm = here_later P f asked.missing scope env m g here in
      let ho = here_later P f asked.missing scope m o v hm in
      let ob = on_behind env front t ps in
      let later = behind_parts o forms.SwitchNode false ps in
      let e3 = subst Ends ob ends in
      let e1 = ends_before m o v.grown (ends_before o later (q.0 ho.within false).grown e3) in
      let x = k.2 scope here e1 in
      let y = q.2 false scope ho e3 in
      let fr : o.in_loop ≡ env.in_loop = ap (λ z. z.in_loop) v.grown.frame ∙ ap (λ z. z.in_loop) g.grown.frame in
      let fe : (o.in_loop || o.in_switch) ≡ (env.in_loop || env.in_switch) =
      ap (λ z. z.in_loop || z.in_switch) v.grown.frame ∙ ap (λ z. z.in_loop || z.in_switch) g.grown.frame in
      let same = value_same m m.labels (kind_of env t) in
      switch_so scope env _ later _ _ ob (ap (λ (z : MadeParts). z.pieces) (on_meant env front sites t ps)) (record {
        types' = (x.types', y.types');
        scoped = (x.scoped, y.scoped);
        exits = λ u w d e. (x.exits u w d e, y.exits u w (fr ∙ d) (fe ∙ e));
        declared = λ n. (let a = x.declared n in
            let b = subst (λ z. all_declarations
            (bodies (parts_meant o forms.SwitchNode false (meant env sites t).sites ps).pieces) n +
            one_below n (length z) ≡ one_below n (length later.variables)) same (y.declared n) in omega arith);
        roots = λ r. y.roots (subst (λ z. AllRoots P f z) (sym same) (x.roots r));
      })

  pub good : Cases asked StatementGood LinesGood SwitchGood
  good = record {
    block = λ env sites w f' l parts k. (
      (growing asked).block env sites w f' l parts k.0,
      (labelling asked).block env sites w f' l parts k.1,
      block_good env sites w f' l parts k,
    );
    idle = λ env sites w f' l. (
      (growing asked).idle env sites w f' l,
      (labelling asked).idle env sites w f' l,
      λ scope here ends. simple_stated P f scope env _ _ _ (simple_leaves env w f' l none tt)
          (what_is (simple0_built env sites w f' l)) (idle_simple P f scope),
    );
    simple = λ env sites w f' l e h s. (
      (growing asked).simple env sites w f' l e h s,
      (labelling asked).simple env sites w f' l e h s,
      λ scope here ends. simple_stated P f scope env _ _ _ (simple_leaves env w f' l (more e none) h)
          (what_is (simple_built env sites w f' l e)) (expression_simple P f asked scope env sites e h s here.at),
    );
    if_one = λ env sites w f' l c a h s k. (
      (growing asked).if_one env sites w f' l c a h s k.0,
      (labelling asked).if_one env sites w f' l c a h s k.1,
      if_good env sites w f' l c a h s k.2,
    );
    if_else = λ env sites w f' l c a b h s k k'. (
      (growing asked).if_else env sites w f' l c a b h s k.0 k'.0,
      (labelling asked).if_else env sites w f' l c a b h s k.1 k'.1,
      else_good env sites w f' l c a b h s k k',
    );
    while = λ env sites w f' l c a h s k. (
      (growing asked).while env sites w f' l c a h s k.0,
      (labelling asked).while env sites w f' l c a h s k.1,
      while_good env sites w f' l c a h s k.2,
    );
    do_while = λ env sites w f' l a c h k s. (
      (growing asked).do_while env sites w f' l a c h k.0 s,
      (labelling asked).do_while env sites w f' l a c h k.1 s,
      do_good env sites w f' l a c h k s,
    );
    for_ever = λ env sites w f' l d a h s k. (
      (growing asked).for_ever env sites w f' l d a h s k.0,
      (labelling asked).for_ever env sites w f' l d a h s k.1,
      for_ever_good env sites w f' l d a h s k,
    );
    for_one = λ env sites w f' l d e a h s he se k. (
      (growing asked).for_one env sites w f' l d e a h s he se k.0,
      (labelling asked).for_one env sites w f' l d e a h s he se k.1,
      for_one_good env sites w f' l d e a h s he se k,
    );
    for_both = λ env sites w f' l d c e a h s hc sc he se k. (
      (growing asked).for_both env sites w f' l d c e a h s hc sc he se k.0,
      (labelling asked).for_both env sites w f' l d c e a h s hc sc he se k.1,
      for_both_good env sites w f' l d c e a h s hc sc he se k,
    );
    switch = λ env sites w f' l v ss h s k. (
      (growing asked).switch env sites w f' l v ss h s k.0,
      (labelling asked).switch env sites w f' l v ss h s k.1,
      switch_good env sites w f' l v ss h s k,
    );
    case = λ env sites role w f' l v a h s n k. (
      (growing asked).case env sites role w f' l v a h s n k.0,
      (labelling asked).case env sites role w f' l v a h s n k.1,
      case_good env sites w f' l v a h k.2,
    );
    default = λ env sites role w f' l a n k. (
      (growing asked).default env sites role w f' l a n k.0,
      (labelling asked).default env sites role w f' l a n k.1,
      default_good env sites w f' l a k.2,
    );
    break = λ env sites role w f' l n. (
      (growing asked).break env sites role w f' l n,
      (labelling asked).break env sites role w f' l n,
      λ scope here ends. leaf_good scope env _ _ _ (break_leaves env w f' l) (what_is (break_built env sites w f' l))
          tt tt (λ x y d e. sym e ∙ not_is (env.in_loop || env.in_switch) (break_fault asked env role w f' l n))
          (λ z. refl),
    );
    continue = λ env sites role w f' l n. (
      (growing asked).continue env sites role w f' l n,
      (labelling asked).continue env sites role w f' l n,
      λ scope here ends. leaf_good scope env _ _ _ (continue_leaves env w f' l)
          (what_is (continue_built env sites w f' l)) tt tt (λ x y d e. sym d ∙
          not_is env.in_loop (continue_fault asked env role w f' l n)) (λ z. refl),
    );
    return0 = λ env sites role w f' l n. (
      (growing asked).return0 env sites role w f' l n,
      (labelling asked).return0 env sites role w f' l n,
      return0_good env sites role w f' l n,
    );
    return1 = λ env sites role w f' l e h s n. (
      (growing asked).return1 env sites role w f' l e h s n,
      (labelling asked).return1 env sites role w f' l e h s n,
      return1_good env sites role w f' l e h s n,
    );
    no_line = λ env sites. ((growing asked).no_line env sites, tt, none_good env sites);
    declared = λ env sites d ps h s q. (
      (growing asked).declared env sites d ps h s q.0,
      tt,
      declared_good env sites d ps h s q,
    );
    line = λ env sites t ps k q. ((growing asked).line env sites t ps k.0 q.0, tt, line_good env sites t ps k q);
    no_statement = λ env sites. (
      (growing asked).no_statement env sites,
      (labelling asked).no_statement env sites,
      no_arm_good env sites,
    );
    statement = λ env sites t ps k q. (
      (growing asked).statement env sites t ps k.0 q.0,
      (labelling asked).statement env sites t ps k.1 q.1,
      arm_good env sites t ps k q,
    );
  }
