-- When a statement has no way out but its end.
use Rattle.std.proofs.Common.{◌≡◌, ℕ, Option, Some, None, refl, sym, ap, true, false, if◌then◌else◌}
use Rattle.std.proofs.Common.{Bool as Test}
use Rattle.std.proofs.lemmas.Option.{none-some}
use Rattle.cl_model.specs.Tree.{Statement, Do, Declare, Fill, Block, If, Loop, Switch, Break, Continue, Return}
use Rattle.cl_model.specs.Tree.{Barrier, Statements, empty, also, Arms, no_arm, arm}
use Rattle.cl_model.specs.Valid.{ExitsFit, AllExitsFit, ArmsExitsFit}
use Rattle.cl_model.specs.Varying.{returns, some_returns, arms_return}
use Rattle.kir.specs.Choices.{belongs, some_belongs, arms_belong}
use Rattle.kir_lower.specs.Ways.{first_of, way_out, way_out_of_all, way_out_of_arms}
use Rattle.kir_lower_shape.proofs.Quiet.{or_parts, true_false}

pub both_none : (a b : Option ℕ) → a ≡ None → b ≡ None → first_of a b ≡ None
both_none None b e f = f
both_none (Some s) b e f = absurd (none-some s (sym e))

pub first_none : (a b : Option ℕ) → first_of a b ≡ None → a ≡ None
first_none None b e = refl
first_none (Some s) b e = absurd (none-some s (sym e))

pub second_none : (a b : Option ℕ) → first_of a b ≡ None → b ≡ None
second_none None b e = e
second_none (Some s) b e = absurd (none-some s (sym e))

none_if : (b : Test) (site : ℕ) → b ≡ false → (if b then Some site else None) ≡ None
none_if b site e = ap (λ z. if z then Some site else None) e

-- where no `break` or `continue` belongs to it, and it has no other way out
mutual
  pub belongs_none : (b : Test) (s : Statement) → belongs b s ≡ false → way_out false false s ≡ None →
      way_out b true s ≡ None
  belongs_none b (Do e) h w = refl
  belongs_none b (Declare x value) h w = refl
  belongs_none b (Fill site array values) h w = refl
  belongs_none b (Block list) h w = some_belongs_none b list h w
  belongs_none b (If site test chosen other) h w =
      let p = or_parts (some_belongs b chosen) (some_belongs b other) h in
      both_none _ _ (some_belongs_none b chosen p.0 (first_none _ _ w))
      (some_belongs_none b other p.1 (second_none (way_out_of_all false false chosen) _ w))
  belongs_none b (Loop site test_first test step body) h w = w
  belongs_none b (Switch site value arms) h w = arms_belong_none arms h w
  belongs_none b (Break site) h w = none_if b site h
  belongs_none b (Continue site) h w = absurd (true_false h)
  belongs_none b (Return site value) h w = w
  belongs_none b (Barrier site) h w = refl

  some_belongs_none : (b : Test) (list : Statements) → some_belongs b list ≡ false →
      way_out_of_all false false list ≡ None → way_out_of_all b true list ≡ None
  some_belongs_none b empty h w = refl
  some_belongs_none b (also s rest) h w =
      let p = or_parts (belongs b s) (some_belongs b rest) h in
      both_none _ _ (belongs_none b s p.0 (first_none _ _ w))
      (some_belongs_none b rest p.1 (second_none (way_out false false s) _ w))

  arms_belong_none : (arms : Arms) → arms_belong arms ≡ false → way_out_of_arms false false arms ≡ None →
      way_out_of_arms false true arms ≡ None
  arms_belong_none no_arm h w = refl
  arms_belong_none (arm labels other body rest) h w =
      let p = or_parts (some_belongs false body) (arms_belong rest) h in
      both_none _ _ (some_belongs_none false body p.0 (first_none _ _ w))
      (arms_belong_none rest p.1 (second_none (way_out_of_all false false body) _ w))

-- where it holds no `return`, and each `break` and `continue` in it is one of a loop or switch that is not looked at
mutual
  pub exits_none : (in_loop in_either b k : Test) → (in_either ≡ true → b ≡ false) → (in_loop ≡ true → k ≡ false) →
      (s : Statement) → ExitsFit in_loop in_either s → returns s ≡ false → way_out b k s ≡ None
  exits_none l e b k f g (Do value) h r = refl
  exits_none l e b k f g (Declare x value) h r = refl
  exits_none l e b k f g (Fill site array values) h r = refl
  exits_none l e b k f g (Block list) h r = some_exits_none l e b k f g list h r
  exits_none l e b k f g (If site test chosen other) h r =
      let p = or_parts (some_returns chosen) (some_returns other) r in
      both_none _ _ (some_exits_none l e b k f g chosen h.0 p.0) (some_exits_none l e b k f g other h.1 p.1)
  exits_none l e b k f g (Loop site test_first test step body) h r =
      exits_none true true false false (λ x. refl) (λ x. refl) body h r
  exits_none l e b k f g (Switch site value arms) h r = arms_exits_none l true false k (λ x. refl) g arms h r
  exits_none l e b k f g (Break site) h r = none_if b site (f h)
  exits_none l e b k f g (Continue site) h r = none_if k site (g h)
  exits_none l e b k f g (Return site value) h r = absurd (true_false r)
  exits_none l e b k f g (Barrier site) h r = refl

  pub some_exits_none : (in_loop in_either b k : Test) → (in_either ≡ true → b ≡ false) →
      (in_loop ≡ true → k ≡ false) → (list : Statements) → AllExitsFit in_loop in_either list →
      some_returns list ≡ false → way_out_of_all b k list ≡ None
  some_exits_none l e b k f g empty h r = refl
  some_exits_none l e b k f g (also s rest) h r =
      let p = or_parts (returns s) (some_returns rest) r in
      both_none _ _ (exits_none l e b k f g s h.0 p.0) (some_exits_none l e b k f g rest h.1 p.1)

  arms_exits_none : (in_loop in_either b k : Test) → (in_either ≡ true → b ≡ false) → (in_loop ≡ true → k ≡ false) →
      (arms : Arms) → ArmsExitsFit in_loop in_either arms → arms_return arms ≡ false → way_out_of_arms b k arms ≡ None
  arms_exits_none l e b k f g no_arm h r = refl
  arms_exits_none l e b k f g (arm labels other body rest) h r =
      let p = or_parts (some_returns body) (arms_return rest) r in
      both_none _ _ (some_exits_none l e b k f g body h.0 p.0) (arms_exits_none l e b k f g rest h.1 p.1)
