-- What each statement holds: the induction over statements.
use Rattle.std.proofs.Common.{◌≡◌, ℕ, ◌+◌, ◌*◌, ◌≤◌, List, [], ◌∷◌, length, Option, None, Some, Bool, true, false}
use Rattle.std.proofs.Common.{if◌then◌else◌, refl, ap, sym, ◌∙◌, subst, inl, inr, arith}
use Rattle.wg_num.specs.declared.types.Place.{Place}
use Rattle.cl_model.specs.Tree as tree
use Rattle.cl_model.specs.Tree.{Expression}
use Rattle.cl_tree.specs.declared.tree.Form.TheVariants as forms
use Rattle.cl_tree.specs.Syntax.{Syntax, node, Forest, none, more}
use Rattle.cl_meaning.specs.declared.kind.Kind.{Kind}
use Rattle.cl_meaning.specs.declared.kind.Role.TheVariants as roles
use Rattle.cl_meaning.specs.declared.kind.Yield.{Yield}
use Rattle.cl_meaning.specs.declared.kind.Yield.TheVariants as yields
use Rattle.cl_meaning.specs.Environment.{Env, place_of}
use Rattle.cl_meaning.specs.Visible.{behind, kind_of, visible_at, opened, apart, in_block, in_loop, in_switch}
use Rattle.cl_meaning.specs.Faults.{Asked}
use Rattle.cl_meaning.specs.Typed.{What, nothing, value, target, offset, values, barrier, fence, lines, statement}
use Rattle.cl_meaning.specs.Typed.{labelled, function, functions, Piece, Built}
use Rattle.cl_meaning.specs.Expressions.{read}
use Rattle.cl_meaning.specs.Statements.{alone, body_of, lines_of, all_lines, simple_statement, for_made}
use Rattle.cl_meaning.specs.Statements.{second_is_test, label_of, labelled_by, returned}
use Rattle.cl_meaning.specs.Constants.{constant_of}
use Rattle.cl_meaning.specs.Meant.{MadeParts, meant, parts_meant}
use Rattle.cl_check_sound.specs.Shape.{IsExpression, IsDeclaration}
use Rattle.cl_check_sound.specs.Sound.{SoundTree}
use Rattle.cl_check_sound.proofs.Measure.{Weights, measure, operand_small}
use Rattle.cl_check_sound.proofs.Small.{held, held_more, Small}
use Rattle.cl_check_sound.proofs.Holding.{extra, extras, holds}
use Rattle.cl_check_sound.proofs.Grown.{Grown, Within, within_later}
use Rattle.cl_check_sound.proofs.Growth.{declaration_grows, within_opened, within_block, within_marked, block_is}
use Rattle.cl_check_sound.proofs.Growth.{value_kept}
use Rattle.cl_check_sound.proofs.Growing.{StatementGrows, LinesGrow, SwitchGrows, first_grows, growing}
use Rattle.cl_check_sound.proofs.Labelling.{body_by}
use Rattle.cl_check_sound.proofs.Arms.{bodies}
use Rattle.cl_check_sound.proofs.Induction.{IsFirst, Cases}
use Rattle.cl_check_sound.proofs.Parts.{built_of, if_built, else_pieces, else_built, while_built, do_built, for_built}
use Rattle.cl_check_sound.proofs.Parts.{for1_built, for2_built, at_labels, on_labels, switch_pieces, switch_built}
use Rattle.cl_check_sound.proofs.Parts.{on_meant, case_env, default_env, case_built, default_built, break_built}
use Rattle.cl_check_sound.proofs.Parts.{continue_built, simple0_built, simple_built, return0_built, return_built}
use Rattle.cl_check_sound.proofs.Parts.{block_built, line_meant}
use Rattle.cl_check_sound.proofs.Weighing.{measure_optional, weigh, weigh_all, weigh_followed, arms_weighed, one_by}
use Rattle.cl_check_sound.proofs.Weighing.{Weighed, free_of, declaration_weighed, if_extra, while_extra, else_extra}
use Rattle.cl_check_sound.proofs.Weighing.{do_extra, for_extra, for1_extra, for2_extra, switch_extra, case_extra}
use Rattle.cl_check_sound.proofs.Weighing.{default_extra, block_extra, simple_extra, return_extra, idle_extra}
use Rattle.cl_check_sound.proofs.Weighing.{return0_extra, break_extra, continue_extra, line_extra, arm_extra}

module _ (asked : Asked) (m : Weights) (k : ℕ) (z : (x : ℕ) → m.named x ≡ 0) where
  -- a statement, as it is made
  abbrev Made' : ℕ → Built → ℕ → Type 0
  Made' before b x = Weighed m before b.what (held m (length b.sites) + x)

  abbrev pub StatementWeighs : Env → List Place → Syntax → Type 0
  StatementWeighs env sites t = StatementGrows env sites t × (Within env → env.owner.number ≡ k →
      Made' (held m (length sites)) (built_of (meant env sites t)) (extra m k env t))

  abbrev pub LinesWeigh : Env → List Place → Forest → Type 0
  LinesWeigh env sites parts = LinesGrow env sites parts × ((front : Bool) → Within env → env.owner.number ≡ k →
      weigh_all m (all_lines (parts_meant env forms.BlockNode front sites parts).pieces) + held m (length sites) ≤
      held m (length (parts_meant env forms.BlockNode front sites parts).sites) +
      extras m k env forms.BlockNode front parts)

  abbrev pub SwitchWeighs : Env → List Place → Forest → Type 0
  SwitchWeighs env sites parts = SwitchGrows env sites parts × ((front : Bool) → Within env → env.owner.number ≡ k →
      weigh_all m (bodies (parts_meant env forms.SwitchNode front sites parts).pieces) + held m (length sites) ≤
      held m (length (parts_meant env forms.SwitchNode front sites parts).sites) +
      extras m k env forms.SwitchNode front parts)

  made_so : (before x y : ℕ) (b c : Built) → b ≡ c → y ≡ x → Made' before c x → Made' before b y
  made_so before x y b c e h w = subst (λ u. Made' before b u) (sym h) (subst (λ u. Made' before u x) (sym e) w)

  -- an expression with its bound
  bound : (env : Env) (sites : List Place) (t : Syntax) → IsExpression t → env.owner.number ≡ k →
      measure m (read (meant env sites t).piece.what) + (held m (length sites) + 4 * m.plain) ≤
      held m (length (meant env sites t).sites) + extra m k env t
  bound env sites t h n = (holds m k env sites t h (free_of m z env) n).bound

  owner_later : (env later : Env) → Grown env later → env.owner.number ≡ k → later.owner.number ≡ k
  owner_later env later g n = ap (λ y. y.owner.number) g.frame ∙ n

  if_weighs : (env : Env) (sites : List Place) (w : List ℕ) (f l : ℕ) (c a : Syntax) → IsExpression c →
      StatementWeighs (apart env) (meant (apart env) sites c).sites a → Within env → env.owner.number ≡ k →
      Made' (held m (length sites)) (built_of (meant env sites (node forms.IfNode w f l (more c (more a none)))))
      (extra m k env (node forms.IfNode w f l (more c (more a none))))
  if_weighs env sites w f l c a h s wi n =
      let i = apart env in
      let x = bound i sites c h n in
      let y = (s.1 (within_marked env i refl refl wi) n).bound in
      let q = held_more m (meant i (meant i sites c).sites a).sites
      (place_of (visible_at env (node forms.IfNode w f l (more c (more a none)))) f) in
      made_so _ _ _ _ _ (if_built env sites w f l c a h) (if_extra m k env w f l c a h) (record {
        bound = omega arith;
        one = refl;
      })

  else_weighs : (env : Env) (sites : List Place) (w : List ℕ) (f l : ℕ) (c a b : Syntax) → IsExpression c →
      StatementWeighs (apart env) (meant (apart env) sites c).sites a →
      StatementWeighs (behind (apart env) a) (meant (apart env) (meant (apart env) sites c).sites a).sites b →
      Within env → env.owner.number ≡ k →
      Made' (held m (length sites)) (built_of
      (meant env sites (node forms.IfNode w f l (more c (more a (more b none))))))
      (extra m k env (node forms.IfNode w f l (more c (more a (more b none)))))
  else_weighs env sites w f l c a b h s s' wi n =
      let i = apart env in
      let wa = within_marked env i refl refl wi in
      let g = (s.0 wa).grown in
      let x = bound i sites c h n in
      let y = (s.1 wa n).bound in
      let v = (s'.1 (within_later i (behind i a) wa g) (owner_later i (behind i a) g n)).bound in
      let q = held_more m (else_pieces i sites c a b).sites
      (place_of (visible_at env (node forms.IfNode w f l (more c (more a (more b none))))) f) in
      made_so _ _ _ _ _ (else_built env sites w f l c a b h) (else_extra m k env w f l c a b h)
      (record { bound = omega arith; one = refl })

  while_weighs : (env : Env) (sites : List Place) (w : List ℕ) (f l : ℕ) (c a : Syntax) → IsExpression c →
      StatementWeighs (in_loop env) (meant (in_loop env) sites c).sites a → Within env → env.owner.number ≡ k →
      Made' (held m (length sites)) (built_of (meant env sites (node forms.WhileNode w f l (more c (more a none)))))
      (extra m k env (node forms.WhileNode w f l (more c (more a none))))
  while_weighs env sites w f l c a h s wi n =
      let i = in_loop env in
      let x = bound i sites c h n in
      let y = (s.1 (within_marked env i refl refl wi) n).bound in
      let q = held_more m (meant i (meant i sites c).sites a).sites
      (place_of (visible_at env (node forms.WhileNode w f l (more c (more a none)))) f) in
      made_so _ _ _ _ _ (while_built env sites w f l c a h) (while_extra m k env w f l c a h)
      (record { bound = omega arith; one = refl })

  do_weighs : (env : Env) (sites : List Place) (w : List ℕ) (f l : ℕ) (a c : Syntax) → IsExpression c →
      StatementWeighs (in_loop env) sites a → Within env → env.owner.number ≡ k →
      Made' (held m (length sites)) (built_of (meant env sites (node forms.DoNode w f l (more a (more c none)))))
      (extra m k env (node forms.DoNode w f l (more a (more c none))))
  do_weighs env sites w f l a c h s wi n =
      let i = in_loop env in
      let wa = within_marked env i refl refl wi in
      let g = (s.0 wa).grown in
      let y = (s.1 wa n).bound in
      let x = bound (behind i a) (meant i sites a).sites c h (owner_later i (behind i a) g n) in
      let q = held_more m (meant (behind i a) (meant i sites a).sites c).sites
      (place_of (visible_at env (node forms.DoNode w f l (more a (more c none)))) f) in
      made_so _ _ _ _ _ (do_built env sites w f l a c) (do_extra m k env w f l a c) (record {
        bound = omega arith;
        one = refl;
      })

  -- the whole expression of a statement
  simple_by : (before after : ℕ) (o : Option Kind) (w : What) → Small m before w after →
      weigh m (simple_statement (record { kind = o; what = w } ∷ [])) + before ≤ after + 4 * m.plain
  simple_by before after o (barrier site) s = let x = s.free in omega arith
  simple_by before after o fence s = let x = s.bound in omega arith
  simple_by before after o nothing s = let x = s.bound in omega arith
  simple_by before after o (value e) s = let x = s.bound in omega arith
  simple_by before after o (target p) s = let x = s.bound in omega arith
  simple_by before after o (offset p) s = let x = s.bound in omega arith
  simple_by before after o (values es) s = let x = s.bound in omega arith
  simple_by before after o (lines ls) s = let x = s.bound in omega arith
  simple_by before after o (statement t) s = let x = s.bound in omega arith
  simple_by before after o (labelled ls d t) s = let x = s.bound in omega arith
  simple_by before after o (function g) s = let x = s.bound in omega arith
  simple_by before after o (functions gs) s = let x = s.bound in omega arith

  simple_weighs : (env : Env) (sites : List Place) (w : List ℕ) (f l : ℕ) (e : Syntax) → IsExpression e →
      env.owner.number ≡ k → Made' (held m (length sites))
      (built_of (meant env sites (node forms.SimpleNode w f l (more e none))))
      (extra m k env (node forms.SimpleNode w f l (more e none)))
  simple_weighs env sites w f l e h n =
      let x = simple_by (held m (length sites)) (held m (length (meant env sites e).sites) + extra m k env e)
      (meant env sites e).piece.kind (meant env sites e).piece.what (holds m k env sites e h (free_of m z env) n) in
      made_so _ _ _ _ _ (simple_built env sites w f l e) (simple_extra m k env w f l e) (record {
        bound = omega arith;
        one = refl;
      })

  idle_weighs : (env : Env) (sites : List Place) (w : List ℕ) (f l : ℕ) →
      Made' (held m (length sites)) (built_of (meant env sites (node forms.SimpleNode w f l none)))
      (extra m k env (node forms.SimpleNode w f l none))
  idle_weighs env sites w f l = made_so _ _ _ _ _ (simple0_built env sites w f l) (idle_extra m k env w f l)
      (record { bound = omega arith; one = refl })

  first_weighs : (env : Env) (sites : List Place) (d : Syntax) → IsFirst d → SoundTree asked env roles.Other d →
      Within env → env.owner.number ≡ k → weigh_all m (lines_of (meant env sites d).piece.what) +
      held m (length sites) ≤ held m (length (meant env sites d).sites) + extra m k env d
  first_weighs env sites d (inl h) s wi n =
      (declaration_weighed m k asked env sites roles.Other d h s wi.deep z n).bound
  first_weighs env sites (node forms.SimpleNode w f l none) (inr h) s wi n =
      let x = idle_weighs env sites w f l in let b = x.bound in let e = ap (weigh_all m) x.one in omega arith
  first_weighs env sites (node forms.SimpleNode w f l (more e none)) (inr h) s wi n =
      let x = simple_weighs env sites w f l e h n in let b = x.bound in let e' = ap (weigh_all m) x.one in omega arith
  first_weighs env sites d (inr h) s wi n = absurd h

  -- a `for`: with what its test and its step hold
  for_by : (before : ℕ) (place : Place) (s : List Place) (pd pa : Piece) (test step : Option Expression)
      (one two three x y : ℕ) → weigh_all m (lines_of pd.what) + before ≤ one + x →
      measure_optional m test + (measure_optional m step + one) ≤ two + y →
      weigh m (body_of pa.what) + (two + 4 * m.plain) ≤ held m (length s) + three →
      Made' before (for_made place s pd test step pa) ((x + (y + three)) + (0 + 16 * m.plain))
  for_by before place s pd pa test step one two three x y h g b =
      let q = held_more m s place in
      let e = weigh_followed m (lines_of pd.what) (alone (tree.Loop (length s) true test step (body_of pa.what))) in
      record { bound = omega arith; one = refl }

  for_ever_weighs : (env : Env) (sites : List Place) (w : List ℕ) (f l : ℕ) (d a : Syntax) → IsFirst d →
      SoundTree asked (opened (in_loop env)) roles.Other d →
      StatementWeighs (behind (opened (in_loop env)) d) (meant (opened (in_loop env)) sites d).sites a → Within env →
      env.owner.number ≡ k →
      Made' (held m (length sites)) (built_of (meant env sites (node forms.ForNode w f l (more d (more a none)))))
      (extra m k env (node forms.ForNode w f l (more d (more a none))))
  for_ever_weighs env sites w f l d a h s u wi n =
      let i = opened (in_loop env) in
      let wo = within_opened env wi in
      let j = behind i d in
      let g = first_grows asked i roles.Other d h s wo.deep in
      let s1 = (meant i sites d).sites in
      let x = first_weighs i sites d h s wo n in
      let y = (u.1 (within_later i j wo g) (owner_later i j g n)).bound in
      let e = for_extra m k env w f l d a in
      made_so _ ((extra m k i d + (0 + extra m k j a)) + (0 + 16 * m.plain)) _ _ _ (for_built env sites w f l d a)
      (omega arith)
      (for_by (held m (length sites)) (place_of (visible_at env (node forms.ForNode w f l (more d (more a none)))) f)
      (meant j s1 a).sites (meant i sites d).piece (meant j s1 a).piece None None (held m (length s1))
      (held m (length s1)) (extra m k j a) (extra m k i d) 0 x (omega arith) y)

  for_one_weighs : (env : Env) (sites : List Place) (w : List ℕ) (f l : ℕ) (d e a : Syntax) → IsFirst d →
      SoundTree asked (opened (in_loop env)) roles.Other d → IsExpression e →
      StatementWeighs (behind (opened (in_loop env)) d)
      (meant (behind (opened (in_loop env)) d) (meant (opened (in_loop env)) sites d).sites e).sites a → Within env →
      env.owner.number ≡ k →
      Made' (held m (length sites)) (built_of
      (meant env sites (node forms.ForNode w f l (more d (more e (more a none))))))
      (extra m k env (node forms.ForNode w f l (more d (more e (more a none)))))
  for_one_weighs env sites w f l d e a h s he u wi n =
      let i = opened (in_loop env) in
      let wo = within_opened env wi in
      let j = behind i d in
      let g = first_grows asked i roles.Other d h s wo.deep in
      let s1 = (meant i sites d).sites in
      let s2 = (meant j s1 e).sites in
      let nj = owner_later i j g n in
      let x = first_weighs i sites d h s wo n in
      let y = (u.1 (within_later i j wo g) nj).bound in
      let v = bound j s1 e he nj in
      let ex = for1_extra m k env w f l d e a he in
      made_so _ ((extra m k i d + (extra m k j e + extra m k j a)) + (0 + 16 * m.plain)) _ _ _
      (for1_built env sites w f l d e a he) (omega arith)
      (by (second_is_test (more d (more e (more a none))))
      (place_of (visible_at env (node forms.ForNode w f l (more d (more e (more a none))))) f)
      (meant j s2 a).sites (meant i sites d).piece (meant j s2 a).piece (read (meant j s1 e).piece.what)
      (held m (length s1)) (held m (length s2)) (extra m k j a) (extra m k i d) (extra m k j e) x v y)
    where
      by : (b : Bool) (place : Place) (s : List Place) (pd pa : Piece) (e : Expression) (one two three x y : ℕ) →
          weigh_all m (lines_of pd.what) + held m (length sites) ≤ one + x →
          measure m e + (one + 4 * m.plain) ≤ two + y → weigh m (body_of pa.what) + (two + 4 * m.plain) ≤
          held m (length s) + three →
          Made' (held m (length sites)) (if b then for_made place s pd (Some e) None pa else for_made place s pd None
          (Some e) pa) ((x + (y + three)) + (0 + 16 * m.plain))
      by true place s pd pa e one two three x y h g b =
          for_by (held m (length sites)) place s pd pa (Some e) None one two three x y h (omega arith) b
      by false place s pd pa e one two three x y h g b =
          for_by (held m (length sites)) place s pd pa None (Some e) one two three x y h (omega arith) b

  for_both_weighs : (env : Env) (sites : List Place) (w : List ℕ) (f l : ℕ) (d c e a : Syntax) → IsFirst d →
      SoundTree asked (opened (in_loop env)) roles.Other d → IsExpression c → IsExpression e →
      StatementWeighs (behind (opened (in_loop env)) d)
      (meant (behind (opened (in_loop env)) d)
      (meant (behind (opened (in_loop env)) d) (meant (opened (in_loop env)) sites d).sites c).sites e).sites
      a → Within env → env.owner.number ≡ k →
      Made' (held m (length sites)) (built_of
      (meant env sites (node forms.ForNode w f l (more d (more c (more e (more a none)))))))
      (extra m k env (node forms.ForNode w f l (more d (more c (more e (more a none))))))
  for_both_weighs env sites w f l d c e a h s hc he u wi n =
      let i = opened (in_loop env) in
      let wo = within_opened env wi in
      let j = behind i d in
      let g = first_grows asked i roles.Other d h s wo.deep in
      let s1 = (meant i sites d).sites in
      let s2 = (meant j s1 c).sites in
      let s3 = (meant j s2 e).sites in
      let nj = owner_later i j g n in
      let x = first_weighs i sites d h s wo n in
      let y = (u.1 (within_later i j wo g) nj).bound in
      let v = bound j s1 c hc nj in
      let v' = bound j s2 e he nj in
      let ex = for2_extra m k env w f l d c e a hc he in
      made_so _ ((extra m k i d + ((extra m k j c + extra m k j e) + extra m k j a)) + (0 + 16 * m.plain)) _ _ _
      (for2_built env sites w f l d c e a hc he) (omega arith)
      (for_by (held m (length sites))
      (place_of (visible_at env (node forms.ForNode w f l (more d (more c (more e (more a none)))))) f)
      (meant j s3 a).sites (meant i sites d).piece (meant j s3 a).piece (Some (read (meant j s1 c).piece.what))
      (Some (read (meant j s2 e).piece.what)) (held m (length s1)) (held m (length s3)) (extra m k j a)
      (extra m k i d) (extra m k j c + extra m k j e) x (omega arith) y)

  switch_weighs : (env : Env) (sites : List Place) (w : List ℕ) (f l : ℕ) (v : Syntax) (ss : Forest) →
      IsExpression v → SwitchWeighs (at_labels env v) (meant (in_switch env) sites v).sites ss → Within env →
      env.owner.number ≡ k →
      Made' (held m (length sites)) (built_of (meant env sites (node forms.SwitchNode w f l (more v ss))))
      (extra m k env (node forms.SwitchNode w f l (more v ss)))
  switch_weighs env sites w f l v ss h s wi n =
      let i = in_switch env in
      let x = bound i sites v h n in
      let y = s.1 false (within_marked env (at_labels env v) refl refl wi) n in
      let ps = switch_pieces env sites v ss in
      let q = held_more m ps.sites (place_of (visible_at env (node forms.SwitchNode w f l (more v ss))) f) in
      let r = arms_weighed m ps.pieces in
      made_so _ _ _ _ _ (switch_built env sites w f l v ss h) (switch_extra m k env w f l v ss h)
      (record { bound = omega arith; one = refl })

  label_weighs : (before after : ℕ) (ls : List _) (o : Bool) (w : What) (x : ℕ) → weigh m (body_of w) + x ≤ after →
      weigh m (body_of (labelled_by ls o w)) + x ≤ after
  label_weighs before after ls o w x h = subst (λ y. weigh m y + x ≤ after) (sym (body_by ls o w)) h

  case_weighs : (env : Env) (sites : List Place) (w : List ℕ) (f l : ℕ) (v a : Syntax) → IsExpression v →
      StatementWeighs (case_env env v) (meant env sites v).sites a → Within env → env.owner.number ≡ k →
      Made' (held m (length sites)) (built_of (meant env sites (node forms.CaseNode w f l (more v (more a none)))))
      (extra m k env (node forms.CaseNode w f l (more v (more a none))))
  case_weighs env sites w f l v a h s wi n =
      let i = case_env env v in
      let x = bound env sites v h n in
      let y = (s.1 (within_marked env i refl refl wi) n).bound in
      made_so _ _ _ _ _ (case_built env sites w f l v a h) (case_extra m k env w f l v a h)
      (record {
        bound = label_weighs 0 _ (label_of env.labels (constant_of v)) false
            (meant i (meant env sites v).sites a).piece.what _ (omega arith);
        one = one_by _ false (meant i (meant env sites v).sites a).piece.what;
      })

  default_weighs : (env : Env) (sites : List Place) (w : List ℕ) (f l : ℕ) (a : Syntax) →
      StatementWeighs (default_env env) sites a → Within env → env.owner.number ≡ k →
      Made' (held m (length sites)) (built_of (meant env sites (node forms.DefaultNode w f l (more a none))))
      (extra m k env (node forms.DefaultNode w f l (more a none)))
  default_weighs env sites w f l a s wi n =
      let i = default_env env in
      let y = (s.1 (within_marked env i refl refl wi) n).bound in
      made_so _ _ _ _ _ (default_built env sites w f l a) (default_extra m k env w f l a)
      (record {
        bound = label_weighs 0 _ [] true (meant i sites a).piece.what _ (omega arith);
        one = one_by _ true (meant i sites a).piece.what;
      })

  break_weighs : (env : Env) (sites : List Place) (w : List ℕ) (f l : ℕ) →
      Made' (held m (length sites)) (built_of (meant env sites (node forms.BreakNode w f l none)))
      (extra m k env (node forms.BreakNode w f l none))
  break_weighs env sites w f l =
      let q = held_more m sites (place_of (visible_at env (node forms.BreakNode w f l none)) f) in
      made_so _ _ _ _ _ (break_built env sites w f l) (break_extra m k env w f l) (record {
        bound = omega arith;
        one = refl;
      })

  continue_weighs : (env : Env) (sites : List Place) (w : List ℕ) (f l : ℕ) →
      Made' (held m (length sites)) (built_of (meant env sites (node forms.ContinueNode w f l none)))
      (extra m k env (node forms.ContinueNode w f l none))
  continue_weighs env sites w f l =
      let q = held_more m sites (place_of (visible_at env (node forms.ContinueNode w f l none)) f) in
      made_so _ _ _ _ _ (continue_built env sites w f l) (continue_extra m k env w f l) (record {
        bound = omega arith;
        one = refl;
      })

  returned_small : (y : Yield) (p : Piece) → measure_optional m (returned y (p ∷ [])) ≤ m.plain +
      measure m (read p.what)
  returned_small (yields.Number t) p = operand_small m t p
  returned_small yields.Nothing p = omega arith
  returned_small yields.Outside p = omega arith

  returned_none : (y : Yield) → measure_optional m (returned y []) ≡ 0
  returned_none (yields.Number t) = refl
  returned_none yields.Nothing = refl
  returned_none yields.Outside = refl

  return0_weighs : (env : Env) (sites : List Place) (w : List ℕ) (f l : ℕ) →
      Made' (held m (length sites)) (built_of (meant env sites (node forms.ReturnNode w f l none)))
      (extra m k env (node forms.ReturnNode w f l none))
  return0_weighs env sites w f l =
      let q = held_more m sites (place_of (visible_at env (node forms.ReturnNode w f l none)) f) in
      let r = returned_none env.owner.result in
      made_so _ _ _ _ _ (return0_built env sites w f l) (return0_extra m k env w f l) (record {
        bound = omega arith;
        one = refl;
      })

  return1_weighs : (env : Env) (sites : List Place) (w : List ℕ) (f l : ℕ) (e : Syntax) → IsExpression e →
      env.owner.number ≡ k → Made' (held m (length sites))
      (built_of (meant env sites (node forms.ReturnNode w f l (more e none))))
      (extra m k env (node forms.ReturnNode w f l (more e none)))
  return1_weighs env sites w f l e h n =
      let x = bound env sites e h n in
      let q = held_more m (meant env sites e).sites
      (place_of (visible_at env (node forms.ReturnNode w f l (more e none))) f) in
      let r = returned_small env.owner.result (meant env sites e).piece in
      made_so _ _ _ _ _ (return_built env sites w f l e) (return_extra m k env w f l e) (record {
        bound = omega arith;
        one = refl;
      })

  block_weighs : (env : Env) (sites : List Place) (w : List ℕ) (f l : ℕ) (parts : Forest) →
      LinesWeigh (in_block env) sites parts → Within env → env.owner.number ≡ k →
      Made' (held m (length sites)) (built_of (meant env sites (node forms.BlockNode w f l parts)))
      (extra m k env (node forms.BlockNode w f l parts))
  block_weighs env sites w f l parts s wi n =
      let i = opened (apart env) in
      let s' = subst (λ y. LinesWeigh y sites parts) (block_is env wi.in_block) s in
      let x = s'.1 true (within_block env wi) n in
      made_so _ _ _ _ _ (block_built env sites w f l parts wi.in_block) (block_extra m k env w f l parts ∙
      ap (λ y. extras m k y forms.BlockNode true parts + (0 + 16 * m.plain)) (block_is env wi.in_block))
      (record { bound = omega arith; one = refl })

  -- ---- lines

  no_lines : (env : Env) (sites : List Place) (front : Bool) →
      ((parts_meant env forms.BlockNode front sites none).pieces ≡ []) ×
      ((parts_meant env forms.BlockNode front sites none).sites ≡ sites)
  unfolding parts_meant
  no_lines env sites front = (refl, refl)

  none_weighs : (env : Env) (sites : List Place) (front : Bool) →
      weigh_all m (all_lines (parts_meant env forms.BlockNode front sites none).pieces) + held m (length sites) ≤
      held m (length (parts_meant env forms.BlockNode front sites none).sites) + extras m k env forms.BlockNode front
      none
  none_weighs env sites front =
      let e = ap (λ y. weigh_all m (all_lines y)) (no_lines env sites front).0 in let g =
      ap (λ y. held m (length y)) (no_lines env sites front).1 in omega arith

  line_by : (env : Env) (sites : List Place) (front : Bool) (p : Syntax) (ps : Forest) →
      weigh_all m (lines_of (meant env sites p).piece.what) + held m (length sites) ≤
      held m (length (meant env sites p).sites) + extra m k env p →
      weigh_all m (all_lines (parts_meant (behind env p) forms.BlockNode false (meant env sites p).sites ps).pieces) +
      held m (length (meant env sites p).sites) ≤
      held m (length (parts_meant (behind env p) forms.BlockNode false (meant env sites p).sites ps).sites) +
      extras m k (behind env p) forms.BlockNode false ps →
      weigh_all m (all_lines (parts_meant env forms.BlockNode front sites (more p ps)).pieces) +
      held m (length sites) ≤ held m (length (parts_meant env forms.BlockNode front sites (more p ps)).sites) +
      extras m k env forms.BlockNode front (more p ps)
  line_by env sites front p ps x y =
      let e = weigh_followed m (lines_of (meant env sites p).piece.what)
      (all_lines (parts_meant (behind env p) forms.BlockNode false (meant env sites p).sites ps).pieces) in
      let q = line_extra m k env front p ps in
      subst (λ (u : MadeParts). weigh_all m (all_lines u.pieces) + held m (length sites) ≤ held m (length u.sites) +
      extras m k env forms.BlockNode front (more p ps)) (sym (line_meant env front sites p ps)) (omega arith)

  declared_weighs : (env : Env) (sites : List Place) (d : Syntax) (ps : Forest) → IsDeclaration d →
      SoundTree asked env roles.Other d → LinesWeigh (behind env d) (meant env sites d).sites ps → (front : Bool) →
      Within env → env.owner.number ≡ k →
      weigh_all m (all_lines (parts_meant env forms.BlockNode front sites (more d ps)).pieces) +
      held m (length sites) ≤ held m (length (parts_meant env forms.BlockNode front sites (more d ps)).sites) +
      extras m k env forms.BlockNode front (more d ps)
  declared_weighs env sites d ps h s q front wi n =
      let g = declaration_grows asked env roles.Other d h s wi.deep in
      line_by env sites front d ps (declaration_weighed m k asked env sites roles.Other d h s wi.deep z n).bound
      (q.1 false (within_later env (behind env d) wi g) (owner_later env (behind env d) g n))

  line_weighs : (env : Env) (sites : List Place) (t : Syntax) (ps : Forest) → StatementWeighs env sites t →
      LinesWeigh (behind env t) (meant env sites t).sites ps → (front : Bool) → Within env → env.owner.number ≡ k →
      weigh_all m (all_lines (parts_meant env forms.BlockNode front sites (more t ps)).pieces) +
      held m (length sites) ≤ held m (length (parts_meant env forms.BlockNode front sites (more t ps)).sites) +
      extras m k env forms.BlockNode front (more t ps)
  line_weighs env sites t ps s q front wi n =
      let g = (s.0 wi).grown in
      let x = s.1 wi n in
      let b = x.bound in
      let o = ap (weigh_all m) x.one in
      line_by env sites front t ps (omega arith) (q.1 false (within_later env (behind env t) wi g)
      (owner_later env (behind env t) g n))

  no_arms : (env : Env) (sites : List Place) (front : Bool) →
      ((parts_meant env forms.SwitchNode front sites none).pieces ≡ []) ×
      ((parts_meant env forms.SwitchNode front sites none).sites ≡ sites)
  unfolding parts_meant
  no_arms env sites front = (refl, refl)

  no_arm_weighs : (env : Env) (sites : List Place) (front : Bool) →
      weigh_all m (bodies (parts_meant env forms.SwitchNode front sites none).pieces) + held m (length sites) ≤
      held m (length (parts_meant env forms.SwitchNode front sites none).sites) +
      extras m k env forms.SwitchNode front none
  no_arm_weighs env sites front =
      let e = ap (λ y. weigh_all m (bodies y)) (no_arms env sites front).0 in let g =
      ap (λ y. held m (length y)) (no_arms env sites front).1 in omega arith

  arm_weighs : (env : Env) (sites : List Place) (t : Syntax) (ps : Forest) → StatementWeighs env sites t →
      SwitchWeighs (on_labels env t) (meant env sites t).sites ps → (front : Bool) → Within env → env.owner.number ≡ k →
      weigh_all m (bodies (parts_meant env forms.SwitchNode front sites (more t ps)).pieces) + held m (length sites) ≤
      held m (length (parts_meant env forms.SwitchNode front sites (more t ps)).sites) +
      extras m k env forms.SwitchNode front (more t ps)
  arm_weighs env sites t ps s q front wi n =
      let g = (s.0 wi).grown in
      let v = (value_kept (behind env t) (behind env t).labels (kind_of env t)).grown in
      let wt = within_later env (behind env t) wi g in
      let x = (s.1 wi n).bound in
      let y = q.1 false (within_later (behind env t) (on_labels env t) wt v)
      (owner_later (behind env t) (on_labels env t) v (owner_later env (behind env t) g n)) in
      let e = arm_extra m k env front t ps in
      subst (λ (u : MadeParts). weigh_all m (bodies u.pieces) + held m (length sites) ≤ held m (length u.sites) +
      extras m k env forms.SwitchNode front (more t ps)) (sym (on_meant env front sites t ps)) (omega arith)

  pub weighing : Cases asked StatementWeighs LinesWeigh SwitchWeighs
  weighing = record {
    block = λ env sites w f l parts s. (
      (growing asked).block env sites w f l parts s.0,
      block_weighs env sites w f l parts s,
    );
    idle = λ env sites w f l. ((growing asked).idle env sites w f l, λ wi n. idle_weighs env sites w f l);
    simple = λ env sites w f l e h s. (
      (growing asked).simple env sites w f l e h s,
      λ wi n. simple_weighs env sites w f l e h n,
    );
    if_one = λ env sites w f l c a h s u. (
      (growing asked).if_one env sites w f l c a h s u.0,
      if_weighs env sites w f l c a h u,
    );
    if_else = λ env sites w f l c a b h s u u'. (
      (growing asked).if_else env sites w f l c a b h s u.0 u'.0,
      else_weighs env sites w f l c a b h u u',
    );
    while = λ env sites w f l c a h s u. (
      (growing asked).while env sites w f l c a h s u.0,
      while_weighs env sites w f l c a h u,
    );
    do_while = λ env sites w f l a c h u s. (
      (growing asked).do_while env sites w f l a c h u.0 s,
      do_weighs env sites w f l a c h u,
    );
    for_ever = λ env sites w f l d a h s u. (
      (growing asked).for_ever env sites w f l d a h s u.0,
      for_ever_weighs env sites w f l d a h s u,
    );
    for_one = λ env sites w f l d e a h s he se u. (
      (growing asked).for_one env sites w f l d e a h s he se u.0,
      for_one_weighs env sites w f l d e a h s he u,
    );
    for_both = λ env sites w f l d c e a h s hc sc he se u. (
      (growing asked).for_both env sites w f l d c e a h s hc sc he se u.0,
      for_both_weighs env sites w f l d c e a h s hc he u,
    );
    switch = λ env sites w f l v ss h s u. (
      (growing asked).switch env sites w f l v ss h s u.0,
      switch_weighs env sites w f l v ss h u,
    );
    case = λ env sites role w f l v a h s n u. (
      (growing asked).case env sites role w f l v a h s n u.0,
      case_weighs env sites w f l v a h u,
    );
    default = λ env sites role w f l a n u. (
      (growing asked).default env sites role w f l a n u.0,
      default_weighs env sites w f l a u,
    );
    break =
        λ env sites role w f l s. ((growing asked).break env sites role w f l s, λ wi n. break_weighs env sites w f l);
    continue = λ env sites role w f l s. (
      (growing asked).continue env sites role w f l s,
      λ wi n. continue_weighs env sites w f l,
    );
    return0 = λ env sites role w f l s. (
      (growing asked).return0 env sites role w f l s,
      λ wi n. return0_weighs env sites w f l,
    );
    return1 = λ env sites role w f l e h s s'. (
      (growing asked).return1 env sites role w f l e h s s',
      λ wi n. return1_weighs env sites w f l e h n,
    );
    no_line = λ env sites. ((growing asked).no_line env sites, λ front wi n. none_weighs env sites front);
    declared =
        λ env sites d ps h s q. ((growing asked).declared env sites d ps h s q.0, declared_weighs env sites d ps h s q);
    line = λ env sites t ps s q. ((growing asked).line env sites t ps s.0 q.0, line_weighs env sites t ps s q);
    no_statement = λ env sites. ((growing asked).no_statement env sites, λ front wi n. no_arm_weighs env sites front);
    statement = λ env sites t ps s q. ((growing asked).statement env sites t ps s.0 q.0, arm_weighs env sites t ps s q);
  }
