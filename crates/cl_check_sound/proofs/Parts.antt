-- The parts of each statement: with what they are looked at, what the statement leaves, and what it stands for.
use Rattle.std.proofs.Common.{◌≡◌, ℕ, suc, nat_eq, List, [], ◌∷◌, None, Some, Bool, true, false, refl, ap, ◌∙◌, subst}
use Rattle.std.proofs.Common.{if◌then◌else◌}
use Rattle.wg_num.specs.declared.types.Place.{Place}
use Rattle.cl_model.specs.Tree as tree
use Rattle.cl_tree.specs.declared.tree.Form.TheVariants as forms
use Rattle.cl_tree.specs.Syntax.{Syntax, node, Forest, none, more, first_of, last_of}
use Rattle.cl_meaning.specs.Constants.{constant_of}
use Rattle.cl_meaning.specs.Spelling.{declared_in}
use Rattle.cl_meaning.specs.declared.kind.Role.{Role}
use Rattle.cl_meaning.specs.declared.kind.Role.TheVariants as roles
use Rattle.cl_meaning.specs.Environment.{Env, place_of}
use Rattle.cl_meaning.specs.Visible.{inside, later, restored, left, closed, before_labels, behind, behind_parts}
use Rattle.cl_meaning.specs.Visible.{kind_of, visible_at, opened, apart, in_loop, in_switch, behind_value, with_label}
use Rattle.cl_meaning.specs.Visible.{with_default}
use Rattle.cl_meaning.specs.Faults.{Asked}
use Rattle.cl_meaning.specs.Typed.{What, nothing, lines, statement, Built, Made}
use Rattle.cl_meaning.specs.Expressions.{made, sited}
use Rattle.cl_meaning.specs.Statements.{all_lines, simple_statement, if_made, while_made, do_made, loop_made}
use Rattle.cl_meaning.specs.Statements.{switch_made, label_of, labelled_by, returned}
use Rattle.cl_meaning.specs.Meant.{MadeParts, meant, parts_meant, make}
use Rattle.cl_check_sound.specs.Shape.{IsType, IsExpression}
use Rattle.cl_check_sound.specs.Sound.{SoundTree, SoundParts}
use Rattle.cl_check_sound.proofs.Holding.{type_sites}
use Rattle.cl_check_sound.proofs.Growth.{expression_leaves, type_next, block_is}

-- what a tree is made into, its kind aside
abbrev pub built_of : Made → Built
built_of m = made m.piece.what m.sites

-- ---- if

pub if_behind : (env : Env) (w : List ℕ) (f l : ℕ) (c a : Syntax) → IsExpression c →
    behind env (node forms.IfNode w f l (more c (more a none))) ≡ before_labels env (behind (apart env) a)
unfolding behind behind_parts restored left inside later
if_behind env w f l c a h = ap (λ z. before_labels env (behind z a)) (expression_leaves (apart env) c h)

pub if_sound : (asked : Asked) (env : Env) (role : Role) (w : List ℕ) (f l : ℕ) (c a : Syntax) → IsExpression c →
    SoundTree asked env role (node forms.IfNode w f l (more c (more a none))) →
    SoundTree asked (apart env) roles.Tested c × SoundTree asked (apart env) roles.Other a
unfolding inside later
if_sound asked env role w f l c a h s =
    (s.0.0, subst (λ z. SoundTree asked z roles.Other a) (expression_leaves (apart env) c h) s.0.1.0)

pub if_built : (env : Env) (sites : List Place) (w : List ℕ) (f l : ℕ) (c a : Syntax) → IsExpression c →
    built_of (meant env sites (node forms.IfNode w f l (more c (more a none)))) ≡
    if_made (place_of (visible_at env (node forms.IfNode w f l (more c (more a none)))) f)
    (meant (apart env) (meant (apart env) sites c).sites a).sites ((meant (apart env) sites c).piece ∷
    (meant (apart env) (meant (apart env) sites c).sites a).piece ∷ [])
unfolding meant parts_meant make inside later
if_built env sites w f l c a h =
    ap (λ z. if_made (place_of (visible_at env (node forms.IfNode w f l (more c (more a none)))) f)
    (meant z (meant (apart env) sites c).sites a).sites ((meant (apart env) sites c).piece ∷
    (meant z (meant (apart env) sites c).sites a).piece ∷ [])) (expression_leaves (apart env) c h)

-- ---- while

pub while_behind : (env : Env) (w : List ℕ) (f l : ℕ) (c a : Syntax) → IsExpression c →
    behind env (node forms.WhileNode w f l (more c (more a none))) ≡ before_labels env (behind (in_loop env) a)
unfolding behind behind_parts restored left inside later
while_behind env w f l c a h = ap (λ z. before_labels env (behind z a)) (expression_leaves (in_loop env) c h)

pub while_sound : (asked : Asked) (env : Env) (role : Role) (w : List ℕ) (f l : ℕ) (c a : Syntax) → IsExpression c →
    SoundTree asked env role (node forms.WhileNode w f l (more c (more a none))) →
    SoundTree asked (in_loop env) roles.Tested c × SoundTree asked (in_loop env) roles.Other a
unfolding inside later
while_sound asked env role w f l c a h s =
    (s.0.0, subst (λ z. SoundTree asked z roles.Other a) (expression_leaves (in_loop env) c h) s.0.1.0)

pub while_built : (env : Env) (sites : List Place) (w : List ℕ) (f l : ℕ) (c a : Syntax) → IsExpression c →
    built_of (meant env sites (node forms.WhileNode w f l (more c (more a none)))) ≡
    while_made (place_of (visible_at env (node forms.WhileNode w f l (more c (more a none)))) f)
    (meant (in_loop env) (meant (in_loop env) sites c).sites a).sites ((meant (in_loop env) sites c).piece ∷
    (meant (in_loop env) (meant (in_loop env) sites c).sites a).piece ∷ [])
unfolding meant parts_meant make inside later
while_built env sites w f l c a h =
    ap (λ z. while_made (place_of (visible_at env (node forms.WhileNode w f l (more c (more a none)))) f)
    (meant z (meant (in_loop env) sites c).sites a).sites ((meant (in_loop env) sites c).piece ∷
    (meant z (meant (in_loop env) sites c).sites a).piece ∷ [])) (expression_leaves (in_loop env) c h)

-- ---- if with else

pub else_behind : (env : Env) (w : List ℕ) (f l : ℕ) (c a b : Syntax) → IsExpression c →
    behind env (node forms.IfNode w f l (more c (more a (more b none)))) ≡
    before_labels env (behind (behind (apart env) a) b)
unfolding behind behind_parts restored left inside later
else_behind env w f l c a b h = ap (λ z. before_labels env (behind (behind z a) b)) (expression_leaves (apart env) c h)

pub else_sound : (asked : Asked) (env : Env) (role : Role) (w : List ℕ) (f l : ℕ) (c a b : Syntax) → IsExpression c →
    SoundTree asked env role (node forms.IfNode w f l (more c (more a (more b none)))) →
    SoundTree asked (apart env) roles.Tested c × SoundTree asked (apart env) roles.Other a ×
    SoundTree asked (behind (apart env) a) roles.Other b
unfolding inside later
else_sound asked env role w f l c a b h s = (
  s.0.0,
  subst (λ z. SoundTree asked z roles.Other a) (expression_leaves (apart env) c h) s.0.1.0,
  subst (λ z. SoundTree asked (behind z a) roles.Other b) (expression_leaves (apart env) c h) s.0.1.1.0,
)

abbrev pub else_pieces : Env → List Place → Syntax → Syntax → Syntax → MadeParts
else_pieces i sites c a b = record {
  pieces = (meant i sites c).piece ∷ (meant i (meant i sites c).sites a).piece ∷
      (meant (behind i a) (meant i (meant i sites c).sites a).sites b).piece ∷ [];
  sites = (meant (behind i a) (meant i (meant i sites c).sites a).sites b).sites;
}

pub else_built : (env : Env) (sites : List Place) (w : List ℕ) (f l : ℕ) (c a b : Syntax) → IsExpression c →
    built_of (meant env sites (node forms.IfNode w f l (more c (more a (more b none))))) ≡
    if_made (place_of (visible_at env (node forms.IfNode w f l (more c (more a (more b none))))) f)
    (else_pieces (apart env) sites c a b).sites (else_pieces (apart env) sites c a b).pieces
unfolding meant parts_meant make inside later
else_built env sites w f l c a b h =
    ap (λ z. if_made (place_of (visible_at env (node forms.IfNode w f l (more c (more a (more b none))))) f)
    (meant (behind z a) (meant z (meant (apart env) sites c).sites a).sites b).sites
    ((meant (apart env) sites c).piece ∷ (meant z (meant (apart env) sites c).sites a).piece ∷
    (meant (behind z a) (meant z (meant (apart env) sites c).sites a).sites b).piece ∷ []))
    (expression_leaves (apart env) c h)

-- ---- do

pub do_behind : (env : Env) (w : List ℕ) (f l : ℕ) (a c : Syntax) → IsExpression c →
    behind env (node forms.DoNode w f l (more a (more c none))) ≡ before_labels env (behind (in_loop env) a)
unfolding behind behind_parts restored left inside later
do_behind env w f l a c h = ap (λ z. before_labels env z) (expression_leaves (behind (in_loop env) a) c h)

pub do_sound : (asked : Asked) (env : Env) (role : Role) (w : List ℕ) (f l : ℕ) (a c : Syntax) →
    SoundTree asked env role (node forms.DoNode w f l (more a (more c none))) →
    SoundTree asked (in_loop env) roles.Other a × SoundTree asked (behind (in_loop env) a) roles.Tested c
unfolding inside later
do_sound asked env role w f l a c s = (s.0.0, s.0.1.0)

pub do_built : (env : Env) (sites : List Place) (w : List ℕ) (f l : ℕ) (a c : Syntax) →
    built_of (meant env sites (node forms.DoNode w f l (more a (more c none)))) ≡
    do_made (place_of (visible_at env (node forms.DoNode w f l (more a (more c none)))) f)
    (meant (behind (in_loop env) a) (meant (in_loop env) sites a).sites c).sites
    ((meant (in_loop env) sites a).piece ∷
    (meant (behind (in_loop env) a) (meant (in_loop env) sites a).sites c).piece ∷ [])
unfolding meant parts_meant make inside later
do_built env sites w f l a c = refl

-- ---- for

pub for_behind : (env : Env) (w : List ℕ) (f l : ℕ) (d a : Syntax) →
    behind env (node forms.ForNode w f l (more d (more a none))) ≡
    before_labels env (behind (behind (opened (in_loop env)) d) a)
unfolding behind behind_parts restored left inside later
for_behind env w f l d a = refl

-- the place of a part of a `for` that is not its first
abbrev pub for_role : Syntax → Syntax → Role
for_role d e = if nat_eq (first_of e) (suc (last_of d)) then roles.Tested else roles.Other

pub for_sound : (asked : Asked) (env : Env) (role : Role) (w : List ℕ) (f l : ℕ) (d a : Syntax) →
    SoundTree asked env role (node forms.ForNode w f l (more d (more a none))) →
    SoundTree asked (opened (in_loop env)) roles.Other d ×
    SoundTree asked (behind (opened (in_loop env)) d) (for_role d a) a
unfolding inside later
for_sound asked env role w f l d a s = (s.0.0, s.0.1.0)

pub for_built : (env : Env) (sites : List Place) (w : List ℕ) (f l : ℕ) (d a : Syntax) →
    built_of (meant env sites (node forms.ForNode w f l (more d (more a none)))) ≡
    loop_made (place_of (visible_at env (node forms.ForNode w f l (more d (more a none)))) f)
    (meant (behind (opened (in_loop env)) d) (meant (opened (in_loop env)) sites d).sites a).sites
    (more d (more a none)) ((meant (opened (in_loop env)) sites d).piece ∷
    (meant (behind (opened (in_loop env)) d) (meant (opened (in_loop env)) sites d).sites a).piece ∷ [])
unfolding meant parts_meant make inside later
for_built env sites w f l d a = refl

-- with one of its test and its step

pub for1_behind : (env : Env) (w : List ℕ) (f l : ℕ) (d e a : Syntax) → IsExpression e →
    behind env (node forms.ForNode w f l (more d (more e (more a none)))) ≡
    before_labels env (behind (behind (opened (in_loop env)) d) a)
unfolding behind behind_parts restored left inside later
for1_behind env w f l d e a h =
    ap (λ z. before_labels env (behind z a)) (expression_leaves (behind (opened (in_loop env)) d) e h)

pub for1_sound : (asked : Asked) (env : Env) (role : Role) (w : List ℕ) (f l : ℕ) (d e a : Syntax) → IsExpression e →
    SoundTree asked env role (node forms.ForNode w f l (more d (more e (more a none)))) →
    SoundTree asked (opened (in_loop env)) roles.Other d ×
    SoundTree asked (behind (opened (in_loop env)) d) (for_role d e) e ×
    SoundTree asked (behind (opened (in_loop env)) d) (for_role e a) a
unfolding inside later
for1_sound asked env role w f l d e a h s = (
  s.0.0,
  s.0.1.0,
  subst (λ z. SoundTree asked z (for_role e a) a)
      (expression_leaves (behind (opened (in_loop env)) d) e h) s.0.1.1.0,
)

abbrev pub for1_pieces : Env → List Place → Syntax → Syntax → Syntax → MadeParts
for1_pieces i sites d e a = record {
  pieces = (meant i sites d).piece ∷ (meant (behind i d) (meant i sites d).sites e).piece ∷
      (meant (behind i d) (meant (behind i d) (meant i sites d).sites e).sites a).piece ∷ [];
  sites = (meant (behind i d) (meant (behind i d) (meant i sites d).sites e).sites a).sites;
}

pub for1_built : (env : Env) (sites : List Place) (w : List ℕ) (f l : ℕ) (d e a : Syntax) → IsExpression e →
    built_of (meant env sites (node forms.ForNode w f l (more d (more e (more a none))))) ≡
    loop_made (place_of (visible_at env (node forms.ForNode w f l (more d (more e (more a none))))) f)
    (for1_pieces (opened (in_loop env)) sites d e a).sites (more d (more e (more a none)))
    (for1_pieces (opened (in_loop env)) sites d e a).pieces
unfolding meant parts_meant make inside later
for1_built env sites w f l d e a h =
    ap (λ z. loop_made (place_of (visible_at env (node forms.ForNode w f l (more d (more e (more a none))))) f)
    (meant z ((meant (behind (opened (in_loop env)) d) ((meant (opened (in_loop env)) sites d).sites) e).sites)
    a).sites (more d (more e (more a none))) ((meant (opened (in_loop env)) sites d).piece ∷
    (meant (behind (opened (in_loop env)) d) ((meant (opened (in_loop env)) sites d).sites) e).piece ∷
    (meant z ((meant (behind (opened (in_loop env)) d) ((meant (opened (in_loop env)) sites d).sites)
    e).sites) a).piece ∷ [])) (expression_leaves (behind (opened (in_loop env)) d) e h)

-- with both

for2_leaves : (env : Env) (c e : Syntax) → IsExpression c → IsExpression e → behind (behind env c) e ≡ env
for2_leaves env c e h k = expression_leaves (behind env c) e k ∙ expression_leaves env c h

pub for2_behind : (env : Env) (w : List ℕ) (f l : ℕ) (d c e a : Syntax) → IsExpression c → IsExpression e →
    behind env (node forms.ForNode w f l (more d (more c (more e (more a none))))) ≡
    before_labels env (behind (behind (opened (in_loop env)) d) a)
unfolding behind behind_parts restored left inside later
for2_behind env w f l d c e a h k =
    ap (λ z. before_labels env (behind z a)) (for2_leaves (behind (opened (in_loop env)) d) c e h k)

pub for2_sound : (asked : Asked) (env : Env) (role : Role) (w : List ℕ) (f l : ℕ) (d c e a : Syntax) →
    IsExpression c → IsExpression e →
    SoundTree asked env role (node forms.ForNode w f l (more d (more c (more e (more a none))))) →
    SoundTree asked (opened (in_loop env)) roles.Other d ×
    SoundTree asked (behind (opened (in_loop env)) d) (for_role d c) c ×
    SoundTree asked (behind (opened (in_loop env)) d) (for_role c e) e ×
    SoundTree asked (behind (opened (in_loop env)) d) (for_role e a) a
unfolding inside later
for2_sound asked env role w f l d c e a h k s = (
  s.0.0,
  s.0.1.0,
  subst (λ z. SoundTree asked z (for_role c e) e)
      (expression_leaves (behind (opened (in_loop env)) d) c h) s.0.1.1.0,
  subst (λ z. SoundTree asked z (for_role e a) a) (for2_leaves (behind (opened (in_loop env)) d) c e h k)
      s.0.1.1.1.0,
)

abbrev pub for2_pieces : Env → List Place → Syntax → Syntax → Syntax → Syntax → MadeParts
for2_pieces i sites d c e a =
    let x = behind i d in
    let s1 = (meant i sites d).sites in
    let s2 = (meant x s1 c).sites in
    let s3 = (meant x s2 e).sites in
    record {
      pieces = (meant i sites d).piece ∷ (meant x s1 c).piece ∷ (meant x s2 e).piece ∷ (meant x s3 a).piece ∷
          [];
      sites = (meant x s3 a).sites;
    }

pub for2_built : (env : Env) (sites : List Place) (w : List ℕ) (f l : ℕ) (d c e a : Syntax) → IsExpression c →
    IsExpression e →
    built_of (meant env sites (node forms.ForNode w f l (more d (more c (more e (more a none)))))) ≡
    loop_made (place_of (visible_at env (node forms.ForNode w f l (more d (more c (more e (more a none)))))) f)
    (for2_pieces (opened (in_loop env)) sites d c e a).sites (more d (more c (more e (more a none))))
    (for2_pieces (opened (in_loop env)) sites d c e a).pieces
unfolding meant parts_meant make inside later
for2_built env sites w f l d c e a h k =
    ap (λ z. loop_made (place_of (visible_at env (node forms.ForNode w f l (more d (more c (more e (more a none))))))
    f) (meant (behind z e) (meant z
    ((meant (behind (opened (in_loop env)) d) ((meant (opened (in_loop env)) sites d).sites) c).sites)
    e).sites a).sites (more d (more c (more e (more a none))))
    ((meant (opened (in_loop env)) sites d).piece ∷
    (meant (behind (opened (in_loop env)) d) ((meant (opened (in_loop env)) sites d).sites) c).piece ∷
    (meant z ((meant (behind (opened (in_loop env)) d) ((meant (opened (in_loop env)) sites d).sites)
    c).sites) e).piece ∷ (meant (behind z e)
    (meant z ((meant (behind (opened (in_loop env)) d) ((meant (opened (in_loop env)) sites d).sites)
    c).sites) e).sites a).piece ∷ [])) (expression_leaves (behind (opened (in_loop env)) d) c h)
    ∙
    ap (λ z. loop_made (place_of (visible_at env
    (node forms.ForNode w f l (more d (more c (more e (more a none)))))) f)
    (meant z (meant (behind (opened (in_loop env)) d)
    ((meant (behind (opened (in_loop env)) d) ((meant (opened (in_loop env)) sites d).sites) c).sites)
    e).sites a).sites (more d (more c (more e (more a none))))
    ((meant (opened (in_loop env)) sites d).piece ∷
    (meant (behind (opened (in_loop env)) d) ((meant (opened (in_loop env)) sites d).sites) c).piece ∷
    (meant (behind (opened (in_loop env)) d)
    ((meant (behind (opened (in_loop env)) d) ((meant (opened (in_loop env)) sites d).sites) c).sites)
    e).piece ∷ (meant z (meant (behind (opened (in_loop env)) d)
    ((meant (behind (opened (in_loop env)) d) ((meant (opened (in_loop env)) sites d).sites) c).sites)
    e).sites a).piece ∷ [])) (expression_leaves (behind (opened (in_loop env)) d) e k)

-- ---- switch

-- behind the value of a switch
abbrev pub at_labels : Env → Syntax → Env
at_labels env v = behind_value (in_switch env) None (kind_of (in_switch env) v)

-- behind a statement of a switch
abbrev pub on_labels : Env → Syntax → Env
on_labels env p = behind_value (behind env p) (behind env p).labels (kind_of env p)

pub switch_behind : (env : Env) (w : List ℕ) (f l : ℕ) (v : Syntax) (ss : Forest) → IsExpression v →
    behind env (node forms.SwitchNode w f l (more v ss)) ≡
    before_labels env (behind_parts (at_labels env v) forms.SwitchNode false ss)
unfolding behind behind_parts restored left inside later
switch_behind env w f l v ss h =
    ap (λ z. before_labels env (behind_parts (behind_value z z.labels (kind_of (in_switch env) v)) forms.SwitchNode
    false ss)) (expression_leaves (in_switch env) v h)

pub switch_sound : (asked : Asked) (env : Env) (role : Role) (w : List ℕ) (f l : ℕ) (v : Syntax) (ss : Forest) →
    IsExpression v → SoundTree asked env role (node forms.SwitchNode w f l (more v ss)) →
    SoundTree asked (in_switch env) roles.Tested v ×
    SoundParts asked (at_labels env v) forms.SwitchNode (Some (last_of v)) ss
unfolding inside later
switch_sound asked env role w f l v ss h s = (
  s.0.0,
  subst (λ z. SoundParts asked (behind_value z z.labels (kind_of (in_switch env) v)) forms.SwitchNode
      (Some (last_of v)) ss) (expression_leaves (in_switch env) v h) s.0.1,
)

abbrev pub switch_pieces : Env → List Place → Syntax → Forest → MadeParts
switch_pieces env sites v ss =
    parts_meant (at_labels env v) forms.SwitchNode false (meant (in_switch env) sites v).sites ss

pub switch_built : (env : Env) (sites : List Place) (w : List ℕ) (f l : ℕ) (v : Syntax) (ss : Forest) → IsExpression v →
    built_of (meant env sites (node forms.SwitchNode w f l (more v ss))) ≡
    switch_made (place_of (visible_at env (node forms.SwitchNode w f l (more v ss))) f)
    (switch_pieces env sites v ss).sites ((meant (in_switch env) sites v).piece ∷
    (switch_pieces env sites v ss).pieces)
unfolding meant parts_meant make inside later
switch_built env sites w f l v ss h =
    ap (λ z. switch_made (place_of (visible_at env (node forms.SwitchNode w f l (more v ss))) f)
    (parts_meant (behind_value z z.labels (kind_of (in_switch env) v)) forms.SwitchNode false
    (meant (in_switch env) sites v).sites ss).sites ((meant (in_switch env) sites v).piece ∷
    (parts_meant (behind_value z z.labels (kind_of (in_switch env) v)) forms.SwitchNode false
    (meant (in_switch env) sites v).sites ss).pieces)) (expression_leaves (in_switch env) v h)

pub on_behind : (env : Env) (front : Bool) (p : Syntax) (ps : Forest) →
    behind_parts env forms.SwitchNode front (more p ps) ≡ behind_parts (on_labels env p) forms.SwitchNode false ps
unfolding behind_parts later
on_behind env front p ps = refl

pub on_sound : (asked : Asked) (env : Env) (l : ℕ) (p : Syntax) (ps : Forest) →
    SoundParts asked env forms.SwitchNode (Some l) (more p ps) → SoundTree asked env roles.Other p ×
    SoundParts asked (on_labels env p) forms.SwitchNode (Some (last_of p)) ps
unfolding later
on_sound asked env l p ps s = (s.0, s.1)

pub on_meant : (env : Env) (front : Bool) (sites : List Place) (p : Syntax) (ps : Forest) →
    parts_meant env forms.SwitchNode front sites (more p ps) ≡
    record {
      pieces = (meant env sites p).piece ∷
          (parts_meant (on_labels env p) forms.SwitchNode false (meant env sites p).sites ps).pieces;
      sites = (parts_meant (on_labels env p) forms.SwitchNode false (meant env sites p).sites ps).sites;
    }
unfolding parts_meant later
on_meant env front sites p ps = refl

-- ---- labels

-- at the statement of a case, and of a default
abbrev pub case_env : Env → Syntax → Env
case_env env v = record env { labels = with_label env.labels (constant_of v) }

abbrev pub default_env : Env → Env
default_env env = record env { labels = with_default env.labels }

pub case_behind : (env : Env) (w : List ℕ) (f l : ℕ) (v a : Syntax) → IsExpression v →
    behind env (node forms.CaseNode w f l (more v (more a none))) ≡
    record (before_labels env (behind (case_env env v) a)) { labels = (behind (case_env env v) a).labels }
unfolding behind behind_parts restored left inside later
case_behind env w f l v a h =
    ap (λ (z : Env). record (before_labels env (behind (record z { labels = with_label z.labels (constant_of v) })
    a)) { labels = (behind (record z { labels = with_label z.labels (constant_of v) }) a).labels })
    (expression_leaves env v h)

pub case_sound : (asked : Asked) (env : Env) (role : Role) (w : List ℕ) (f l : ℕ) (v a : Syntax) → IsExpression v →
    SoundTree asked env role (node forms.CaseNode w f l (more v (more a none))) → SoundTree asked env roles.Other v ×
    SoundTree asked (case_env env v) roles.Other a
unfolding inside later
case_sound asked env role w f l v a h s = (
  s.0.0,
  subst (λ (z : Env). SoundTree asked (record z { labels = with_label z.labels (constant_of v) })
      roles.Other a) (expression_leaves env v h) s.0.1.0,
)

pub case_built : (env : Env) (sites : List Place) (w : List ℕ) (f l : ℕ) (v a : Syntax) → IsExpression v →
    built_of (meant env sites (node forms.CaseNode w f l (more v (more a none)))) ≡
    made (labelled_by (label_of env.labels (constant_of v)) false
    (meant (case_env env v) (meant env sites v).sites a).piece.what)
    (meant (case_env env v) (meant env sites v).sites a).sites
unfolding meant parts_meant make inside later restored
case_built env sites w f l v a h =
    ap (λ (z : Env). made (labelled_by (label_of env.labels (constant_of v)) false
    (meant (record z { labels = with_label z.labels (constant_of v) }) (meant env sites v).sites
    a).piece.what) (meant (record z { labels = with_label z.labels (constant_of v) })
    (meant env sites v).sites a).sites) (expression_leaves env v h)

pub default_behind : (env : Env) (w : List ℕ) (f l : ℕ) (a : Syntax) →
    behind env (node forms.DefaultNode w f l (more a none)) ≡
    record (before_labels env (behind (default_env env) a)) { labels = (behind (default_env env) a).labels }
unfolding behind behind_parts restored left inside later
default_behind env w f l a = refl

pub default_sound : (asked : Asked) (env : Env) (role : Role) (w : List ℕ) (f l : ℕ) (a : Syntax) →
    SoundTree asked env role (node forms.DefaultNode w f l (more a none)) →
    SoundTree asked (default_env env) roles.Other a
unfolding inside later
default_sound asked env role w f l a s = s.0.0

pub default_built : (env : Env) (sites : List Place) (w : List ℕ) (f l : ℕ) (a : Syntax) →
    built_of (meant env sites (node forms.DefaultNode w f l (more a none))) ≡
    made (labelled_by [] true (meant (default_env env) sites a).piece.what) (meant (default_env env) sites a).sites
unfolding meant parts_meant make inside later
default_built env sites w f l a = refl

pub break_built : (env : Env) (sites : List Place) (w : List ℕ) (f l : ℕ) →
    built_of (meant env sites (node forms.BreakNode w f l none)) ≡
    sited (place_of (visible_at env (node forms.BreakNode w f l none)) f) sites (λ site. statement (tree.Break site))
unfolding meant parts_meant make inside later
break_built env sites w f l = refl

pub continue_built : (env : Env) (sites : List Place) (w : List ℕ) (f l : ℕ) →
    built_of (meant env sites (node forms.ContinueNode w f l none)) ≡
    sited (place_of (visible_at env (node forms.ContinueNode w f l none)) f) sites
    (λ site. statement (tree.Continue site))
unfolding meant parts_meant make inside later
continue_built env sites w f l = refl

-- ---- an expression alone, and return

pub simple0_built : (env : Env) (sites : List Place) (w : List ℕ) (f l : ℕ) →
    built_of (meant env sites (node forms.SimpleNode w f l none)) ≡ made (statement (simple_statement [])) sites
unfolding meant parts_meant make inside later
simple0_built env sites w f l = refl

pub simple_built : (env : Env) (sites : List Place) (w : List ℕ) (f l : ℕ) (e : Syntax) →
    built_of (meant env sites (node forms.SimpleNode w f l (more e none))) ≡
    made (statement (simple_statement ((meant env sites e).piece ∷ []))) (meant env sites e).sites
unfolding meant parts_meant make inside later
simple_built env sites w f l e = refl

pub simple_sound : (asked : Asked) (env : Env) (role : Role) (w : List ℕ) (f l : ℕ) (e : Syntax) →
    SoundTree asked env role (node forms.SimpleNode w f l (more e none)) → SoundTree asked env roles.Whole e
unfolding inside later
simple_sound asked env role w f l e s = s.0.0

pub return0_built : (env : Env) (sites : List Place) (w : List ℕ) (f l : ℕ) →
    built_of (meant env sites (node forms.ReturnNode w f l none)) ≡
    sited (place_of (visible_at env (node forms.ReturnNode w f l none)) f) sites
    (λ site. statement (tree.Return site (returned env.owner.result [])))
unfolding meant parts_meant make inside later restored
return0_built env sites w f l = refl

pub return_built : (env : Env) (sites : List Place) (w : List ℕ) (f l : ℕ) (e : Syntax) →
    built_of (meant env sites (node forms.ReturnNode w f l (more e none))) ≡
    sited (place_of (visible_at env (node forms.ReturnNode w f l (more e none))) f) (meant env sites e).sites
    (λ site. statement (tree.Return site (returned env.owner.result ((meant env sites e).piece ∷ []))))
unfolding meant parts_meant make inside later restored
return_built env sites w f l e = refl

pub return_sound : (asked : Asked) (env : Env) (role : Role) (w : List ℕ) (f l : ℕ) (e : Syntax) →
    SoundTree asked env role (node forms.ReturnNode w f l (more e none)) → SoundTree asked env roles.Other e
unfolding inside later
return_sound asked env role w f l e s = s.0.0

-- ---- blocks and declarations

pub block_behind : (env : Env) (w : List ℕ) (f l : ℕ) (parts : Forest) → env.in_body ≡ false →
    behind env (node forms.BlockNode w f l parts) ≡
    before_labels env (behind_parts (opened (apart env)) forms.BlockNode true parts)
unfolding behind restored left inside
block_behind env w f l parts h =
    ap (λ z. before_labels env (behind_parts z forms.BlockNode true parts)) (block_is env h)

pub block_sound : (asked : Asked) (env : Env) (role : Role) (w : List ℕ) (f l : ℕ) (parts : Forest) →
    env.in_body ≡ false → SoundTree asked env role (node forms.BlockNode w f l parts) →
    SoundParts asked (opened (apart env)) forms.BlockNode None parts
unfolding inside
block_sound asked env role w f l parts h s =
    subst (λ z. SoundParts asked z forms.BlockNode None parts) (block_is env h) s.0

pub block_built : (env : Env) (sites : List Place) (w : List ℕ) (f l : ℕ) (parts : Forest) → env.in_body ≡ false →
    built_of (meant env sites (node forms.BlockNode w f l parts)) ≡
    made (statement (tree.Block (all_lines (parts_meant (opened (apart env)) forms.BlockNode true sites
    parts).pieces))) (parts_meant (opened (apart env)) forms.BlockNode true sites parts).sites
unfolding meant make inside
block_built env sites w f l parts h =
    ap (λ z. made (statement (tree.Block (all_lines (parts_meant z forms.BlockNode true sites parts).pieces)))
    (parts_meant z forms.BlockNode true sites parts).sites) (block_is env h)

pub line_behind : (env : Env) (front : Bool) (p : Syntax) (ps : Forest) →
    behind_parts env forms.BlockNode front (more p ps) ≡ behind_parts (behind env p) forms.BlockNode false ps
unfolding behind_parts later
line_behind env front p ps = refl

pub line_sound : (asked : Asked) (env : Env) (b : _) (p : Syntax) (ps : Forest) →
    SoundParts asked env forms.BlockNode b (more p ps) → SoundTree asked env roles.Other p ×
    SoundParts asked (behind env p) forms.BlockNode (Some (last_of p)) ps
unfolding later
line_sound asked env b p ps s = (s.0, s.1)

pub line_meant : (env : Env) (front : Bool) (sites : List Place) (p : Syntax) (ps : Forest) →
    parts_meant env forms.BlockNode front sites (more p ps) ≡
    record {
      pieces = (meant env sites p).piece ∷
          (parts_meant (behind env p) forms.BlockNode false (meant env sites p).sites ps).pieces;
      sites = (parts_meant (behind env p) forms.BlockNode false (meant env sites p).sites ps).sites;
    }
unfolding parts_meant later
line_meant env front sites p ps = refl

-- a type stands for nothing
pub type_nothing : (env : Env) (sites : List Place) (t : Syntax) → IsType t → (meant env sites t).piece.what ≡ nothing
unfolding meant parts_meant make inside
type_nothing env sites (node forms.TypeNode w f l none) h = refl
type_nothing env sites (node forms.TypeNode w f l (more (node forms.SpaceNode w' f' l' none) none)) h = refl
type_nothing env sites t h = absurd h

abbrev pub typed_env : Env → Syntax → Env
typed_env env t = record env { declared = declared_in t }

pub declare_behind : (env : Env) (w : List ℕ) (f l : ℕ) (t : Syntax) (ds : Forest) → IsType t →
    behind env (node forms.DeclareNode w f l (more t ds)) ≡
    closed env (behind_parts (typed_env env t) forms.DeclareNode false ds)
unfolding behind behind_parts restored left inside
declare_behind env w f l t ds h =
    ap (λ z. closed env (behind_parts z forms.DeclareNode false ds)) (type_next env true t (kind_of env t) h)

pub declare_sound : (asked : Asked) (env : Env) (role : Role) (w : List ℕ) (f l : ℕ) (t : Syntax) (ds : Forest) →
    IsType t → SoundTree asked env role (node forms.DeclareNode w f l (more t ds)) →
    SoundTree asked env roles.Other t × SoundParts asked (typed_env env t) forms.DeclareNode (Some (last_of t)) ds
unfolding inside
declare_sound asked env role w f l t ds h s = (
  s.0.0,
  subst (λ z. SoundParts asked z forms.DeclareNode (Some (last_of t)) ds)
      (type_next env true t (kind_of env t) h) s.0.1,
)

abbrev pub declared_lines : MadeParts → Built
declared_lines ms = made (lines (all_lines ms.pieces)) ms.sites

pub declare_built : (env : Env) (sites : List Place) (w : List ℕ) (f l : ℕ) (t : Syntax) (ds : Forest) → IsType t →
    built_of (meant env sites (node forms.DeclareNode w f l (more t ds))) ≡
    declared_lines (parts_meant (typed_env env t) forms.DeclareNode false sites ds)
unfolding meant parts_meant make inside
declare_built env sites w f l t ds h =
    ap (λ (x : What). made (lines (all_lines (record {
      kind = kind_of env t;
      what = x;
    } ∷ (parts_meant e forms.DeclareNode false (meant env sites t).sites ds).pieces)))
    (parts_meant e forms.DeclareNode false (meant env sites t).sites ds).sites) (type_nothing env sites t h)
    ∙ (ap (λ s. declared_lines (parts_meant e forms.DeclareNode false s ds)) (type_sites env sites t h)
    ∙ ap (λ z. declared_lines (parts_meant z forms.DeclareNode false sites ds))
    (type_next env true t (kind_of env t) h))
  where
    e : Env
    e = later (behind env t) forms.DeclareNode true t (kind_of env t)
