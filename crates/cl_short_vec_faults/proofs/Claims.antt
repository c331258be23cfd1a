-- What stands for an expression has the kind of its plain form, and is at fault at no node: operators and commas.
use Rattle.std.proofs.Common.{◌≡◌, ℕ, List, [], ◌∷◌, Option, None, Some, Bool, true, false, ◌&&◌, refl, ap, sym}
use Rattle.std.proofs.Common.{◌∙◌, subst, inl, if◌then◌else◌}
use Rattle.std.proofs.lemmas.Bool.{false≢true}
use Rattle.std.proofs.lemmas.Option.{none-some}
use Rattle.cl_tree.specs.declared.tree.Form.{Form}
use Rattle.cl_tree.specs.declared.tree.Form.TheVariants as forms
use Rattle.cl_tree.specs.Syntax.{Syntax, node, Forest}
use Rattle.cl_tree.specs.Nodes.{forest2, forest3}
use Rattle.cl_meaning.specs.Spelling.{binary_in}
use Rattle.cl_meaning.specs.declared.kind.Kind.{Kind}
use Rattle.cl_meaning.specs.declared.kind.Role.{Role}
use Rattle.cl_meaning.specs.declared.kind.Role.TheVariants as roles
use Rattle.cl_meaning.specs.Environment.{Env}
use Rattle.cl_meaning.specs.Kinds.{is_some, on_one, pair_kind, binary_kind, logic_kind, comma_kind, value_kind}
use Rattle.cl_meaning.specs.Kinds.{is_scalar, kind_step}
use Rattle.cl_meaning.specs.Visible.{kind_of}
use Rattle.cl_meaning.specs.Faults.{Asked, given, lacks_pair, misfits}
use Rattle.cl_check_sound.specs.Shape.{is_expression, OfExpressions, AreOperands}
use Rattle.cl_check_sound.specs.Sound.{SoundTree}
use Rattle.cl_check_sound.proofs.Plain.{kinds_here, SoundHere}
use Rattle.cl_short_vec.specs.declared.kinds.Kind as vectors
use Rattle.cl_short_vec.specs.declared.kinds.Kind.TheVariants.{Other}
use Rattle.cl_short_vec.specs.Kinds.{is_vector, is_operator, joined_kind, pointer_alone}
use Rattle.cl_short_vec.specs.Marks.{Mark, kind_at}
use Rattle.cl_short_vec.specs.Scalar.{scalar}
use Rattle.cl_short_vec_faults.specs.Law.{KindAs}
use Rattle.cl_short_vec_faults.proofs.Building.{seen, NoFault, taken, Fine, fine, kind_here, Good}
use Rattle.cl_short_vec_faults.proofs.Unchanged.{NameSame, FrontSame, FlagsSame, fine_same, step_same}
use Rattle.cl_short_vec_faults.proofs.Known.{IsKnown, binary_known, pair_known, choice_known}
use Rattle.cl_short_vec_faults.proofs.Nodes.{is_call, inside_same, kinds_same, two_kinds, three_kinds}
use Rattle.cl_short_vec_faults.proofs.Nodes.{two_good, three_good}
use Rattle.cl_short_vec_faults.proofs.Kinded.{joined_as, value_as, some_same}

-- the plain form of an expression of that kind has a kind, and what stands for it has the same
pub record Has (asked : Asked) (p s : Env) (place : Role) (j : vectors.Kind) (t u : Syntax) : Type 0 where
  pub made : OfExpressions t
  pub kind : Kind
  pub plain : kind_of p t ≡ Some kind
  pub as' : KindAs j (Some kind)
  pub good : Good asked s place u kind

abbrev pub Claim : Asked → Env → Env → Role → Mark → Syntax → Type 0
Claim asked p s place m t = Has asked p s place (kind_at m) t (scalar m)

-- ---- the plain node

module _ (asked : Asked) (p : Env) (place : Role) (form : Form) (w : List ℕ) (f l : ℕ) (P : Forest)
    (e : is_expression form ≡ true) (c : is_call form ≡ false) (h : AreOperands P)
    (so : SoundTree asked p place (node form w f l P)) where
  pub plain_here : SoundHere asked p P
  plain_here = subst (λ z. SoundHere asked z P) (inside_same form e c p w) (taken asked p place form w f l P e h
      so).parts'

  pub plain_fine : (ks : List (Option Kind)) → kinds_here p P ≡ ks → Fine asked (seen p place form w f P ks)
  plain_fine ks k = fine asked (seen p place form w f P ks)
      (subst (λ z. NoFault asked (seen p place form w f P z)) (kinds_same form e c p w P ks k)
      (taken asked p place form w f l P e h so).node')

  pub plain_step : (ks : List (Option Kind)) → kinds_here p P ≡ ks →
      kind_of p (node form w f l P) ≡ kind_step p form w P ks
  plain_step ks k = kind_here p form w f l P e h ∙ ap (λ z. kind_step p form w P z) (kinds_same form e c p w P ks k)

-- ---- nodes of two parts

module _ (asked : Asked) (p s : Env) (place : Role) (form : Form) (w : List ℕ) (f l : ℕ) (e : is_expression form ≡ true)
    (c : is_call form ≡ false) (ja jb : vectors.Kind) (ta tb ua ub : Syntax)
    (x : Has asked p s roles.Other ja ta ua) (y : Has asked p s roles.Other jb tb ub)
    (so : SoundTree asked p place (node form w f l (forest2 ta tb))) where
  pub two_plain : Fine asked (seen p place form w f (forest2 ta tb) (Some x.kind ∷ Some y.kind ∷ []))
  two_plain = plain_fine asked p place form w f l (forest2 ta tb) e c (inl x.made, (inl y.made, tt)) so
      (Some x.kind ∷ Some y.kind ∷ []) (two_kinds p ta tb (Some x.kind) (Some y.kind) x.plain y.plain)

  pub two_step : kind_of p (node form w f l (forest2 ta tb)) ≡
      kind_step p form w (forest2 ta tb) (Some x.kind ∷ Some y.kind ∷ [])
  two_step = plain_step asked p place form w f l (forest2 ta tb) e c (inl x.made, (inl y.made, tt)) so
      (Some x.kind ∷ Some y.kind ∷ []) (two_kinds p ta tb (Some x.kind) (Some y.kind) x.plain y.plain)

  -- of the same parts
  pub two_kept : (k : Kind) → s.owner ≡ p.owner → NameSame p s form w →
      FrontSame form (forest2 ta tb) (forest2 ua ub) → FlagsSame form (forest2 ta tb) (forest2 ua ub) →
      kind_step p form w (forest2 ta tb) (Some x.kind ∷ Some y.kind ∷ []) ≡ Some k →
      Good asked s place (node form w f l (forest2 ua ub)) k
  two_kept k o n g fl st = two_good asked s place form w f l k e c ua ub x.kind y.kind x.good y.good
      (fine_same form e asked p s place w f (forest2 ta tb) (forest2 ua ub) (Some x.kind ∷ Some y.kind ∷ []) n o g fl
      two_plain) (step_same form p s w (forest2 ta tb) (forest2 ua ub) (Some x.kind ∷ Some y.kind ∷ []) n g ∙ st)

  pub two_same : (j : vectors.Kind) (k : Kind) → s.owner ≡ p.owner → NameSame p s form w →
      FrontSame form (forest2 ta tb) (forest2 ua ub) → FlagsSame form (forest2 ta tb) (forest2 ua ub) →
      kind_step p form w (forest2 ta tb) (Some x.kind ∷ Some y.kind ∷ []) ≡ Some k → KindAs j (Some k) →
      Has asked p s place j (node form w f l (forest2 ta tb)) (node form w f l (forest2 ua ub))
  two_same j k o n g fl st a = record {
    made = (e, (inl x.made, (inl y.made, tt)));
    kind = k;
    plain = two_step ∙ st;
    as' = a;
    good = two_kept k o n g fl st;
  }

-- ---- operators

operator_expression : (form : Form) → is_operator form ≡ true → is_expression form ≡ true
operator_expression forms.TermNode o = refl
operator_expression forms.SumNode o = refl
operator_expression forms.ShiftNode o = refl
operator_expression forms.OrderNode o = refl
operator_expression forms.EqualNode o = refl
operator_expression forms.BandNode o = refl
operator_expression forms.BxorNode o = refl
operator_expression forms.BorNode o = refl
operator_expression _ o = absurd (false≢true o)

operator_no_call : (form : Form) → is_operator form ≡ true → is_call form ≡ false
operator_no_call forms.CallNode o = absurd (false≢true o)
operator_no_call _ o = refl

operator_name : (form : Form) → is_operator form ≡ true → (p s : Env) (w : List ℕ) → NameSame p s form w
operator_name forms.VariableNode o p s w = absurd (false≢true o)
operator_name forms.CallNode o p s w = absurd (false≢true o)
operator_name _ o p s w = tt

operator_front : (form : Form) → is_operator form ≡ true → (P S : Forest) → FrontSame form P S
operator_front forms.CastNode o P S = absurd (false≢true o)
operator_front _ o P S = tt

operator_flags : (form : Form) → is_operator form ≡ true → (P S : Forest) → FlagsSame form P S
operator_flags forms.CallNode o P S = absurd (false≢true o)
operator_flags _ o P S = tt

pub operator_step : (form : Form) → is_operator form ≡ true → (env : Env) (w : List ℕ) (P : Forest)
    (ks : List (Option Kind)) → kind_step env form w P ks ≡ on_one (binary_in w) (λ op. pair_kind (binary_kind op) ks)
unfolding kind_step
operator_step forms.TermNode o env w P ks = refl
operator_step forms.SumNode o env w P ks = refl
operator_step forms.ShiftNode o env w P ks = refl
operator_step forms.OrderNode o env w P ks = refl
operator_step forms.EqualNode o env w P ks = refl
operator_step forms.BandNode o env w P ks = refl
operator_step forms.BxorNode o env w P ks = refl
operator_step forms.BorNode o env w P ks = refl
operator_step _ o env w P ks = absurd (false≢true o)

pub operator_fit : (form : Form) → is_operator form ≡ true → (env : Env) (place : Role) (w : List ℕ) (f : ℕ) (P :
    Forest)
    (ks : List (Option Kind)) → misfits (seen env place form w f P ks) form ≡
    given (binary_in w) (λ op. lacks_pair (binary_kind op) ks)
unfolding misfits
operator_fit forms.TermNode o env place w f P ks = refl
operator_fit forms.SumNode o env place w f P ks = refl
operator_fit forms.ShiftNode o env place w f P ks = refl
operator_fit forms.OrderNode o env place w f P ks = refl
operator_fit forms.EqualNode o env place w f P ks = refl
operator_fit forms.BandNode o env place w f P ks = refl
operator_fit forms.BxorNode o env place w f P ks = refl
operator_fit forms.BorNode o env place w f P ks = refl
operator_fit _ o env place w f P ks = absurd (false≢true o)

module _ (asked : Asked) (p s : Env) (place : Role) (form : Form) (o : is_operator form ≡ true) (w : List ℕ) (f l : ℕ)
    (ja jb : vectors.Kind) (ta tb ua ub : Syntax) (x : Has asked p s roles.Other ja ta ua)
    (y : Has asked p s roles.Other jb tb ub) (so : SoundTree asked p place (node form w f l (forest2 ta tb)))
    (b : is_some (binary_in w) ≡ true) where
  -- the kind of an operator on two operands
  pub operator_known : IsKnown (on_one (binary_in w) (λ op. pair_kind (binary_kind op) (Some x.kind ∷ Some y.kind ∷
      [])))
  operator_known = binary_known (binary_in w) x.kind y.kind b
      (sym (operator_fit form o p place w f (forest2 ta tb) (Some x.kind ∷ Some y.kind ∷ [])) ∙
      (two_plain asked p s place form w f l (operator_expression form o) (operator_no_call form o) ja jb ta tb ua ub x
      y so).fit)

  -- an operator on operands that are no vectors
  pub operator_claim : s.owner ≡ p.owner → is_vector ja ≡ false → is_vector jb ≡ false →
      Has asked p s place (joined_kind (binary_in w) ja jb) (node form w f l (forest2 ta tb))
      (node form w f l (forest2 ua ub))
  operator_claim ow u v = two_same asked p s place form w f l (operator_expression form o) (operator_no_call form o) ja
      jb ta tb ua ub x y so (joined_kind (binary_in w) ja jb) operator_known.0 ow (operator_name form o p s w)
      (operator_front form o (forest2 ta tb) (forest2 ua ub)) (operator_flags form o (forest2 ta tb) (forest2 ua ub))
      (operator_step form o p w (forest2 ta tb) (Some x.kind ∷ Some y.kind ∷ []) ∙ operator_known.1)
      (joined_as (binary_in w) ja jb x.kind y.kind operator_known.0 u v x.as' y.as' operator_known.1)

-- ---- `&&`, `||` and commas

module _ (asked : Asked) (p s : Env) (place : Role) (w : List ℕ) (f l : ℕ) (ja jb : vectors.Kind)
    (ta tb ua ub : Syntax) (x : Has asked p s roles.Other ja ta ua) (y : Has asked p s roles.Other jb tb ub)
    (ow : s.owner ≡ p.owner) where
  pub and_claim : SoundTree asked p place (node forms.AndNode w f l (forest2 ta tb)) →
      Has asked p s place (Other true) (node forms.AndNode w f l (forest2 ta tb))
      (node forms.AndNode w f l (forest2 ua ub))
  unfolding kind_step misfits
  and_claim so =
      let k = pair_known logic_kind x.kind y.kind (two_plain asked p s place forms.AndNode w f l refl refl ja jb ta tb
      ua
      ub x y so).fit in
      two_same asked p s place forms.AndNode w f l refl refl ja jb ta tb ua ub x y so (Other true)
      k.0 ow tt tt tt k.1 tt

  pub or_claim : SoundTree asked p place (node forms.OrNode w f l (forest2 ta tb)) →
      Has asked p s place (Other true) (node forms.OrNode w f l (forest2 ta tb))
      (node forms.OrNode w f l (forest2 ua ub))
  unfolding kind_step misfits
  or_claim so =
      let k = pair_known logic_kind x.kind y.kind (two_plain asked p s place forms.OrNode w f l refl refl ja jb ta tb ua
      ub x y so).fit in
      two_same asked p s place forms.OrNode w f l refl refl ja jb ta tb ua ub x y so (Other true) k.0 ow tt tt tt k.1 tt

  pub comma_claim : SoundTree asked p place (node forms.ExprNode w f l (forest2 ta tb)) →
      Has asked p s place (pointer_alone jb) (node forms.ExprNode w f l (forest2 ta tb))
      (node forms.ExprNode w f l (forest2 ua ub))
  unfolding kind_step misfits
  comma_claim so =
      let k = pair_known comma_kind x.kind y.kind (two_plain asked p s place forms.ExprNode w f l refl refl ja jb ta tb
      ua ub x y so).fit in
      two_same asked p s place forms.ExprNode w f l refl refl ja jb ta tb ua ub x y so (pointer_alone jb) k.0 ow tt tt
      tt
      k.1 (subst (λ z. KindAs (pointer_alone jb) (Some z)) (by (is_scalar x.kind && is_scalar y.kind) k.0 k.1)
      (value_as jb y.kind y.as'))
    where
      by : (b : Bool) (k : Kind) → (if b then Some (value_kind y.kind) else None) ≡ Some k → value_kind y.kind ≡ k
      by true k h = some_same (value_kind y.kind) k h
      by false k h = absurd (none-some k h)

-- ---- a choice

pub choice_claim : (asked : Asked) (p s : Env) (place : Role) (w : List ℕ) (f l : ℕ) (jc ja jb : vectors.Kind)
    (tc ta tb uc ua ub : Syntax) → Has asked p s roles.Other jc tc uc → Has asked p s roles.Other ja ta ua →
    Has asked p s roles.Other jb tb ub → s.owner ≡ p.owner →
    SoundTree asked p place (node forms.CondNode w f l (forest3 tc ta tb)) →
    Has asked p s place (Other true) (node forms.CondNode w f l (forest3 tc ta tb))
    (node forms.CondNode w f l (forest3 uc ua
    ub))
unfolding kind_step misfits
choice_claim asked p s place w f l jc ja jb tc ta tb uc ua ub z x y ow so =
    let P = forest3 tc ta tb in
    let S = forest3 uc ua ub in
    let ks = Some z.kind ∷ Some x.kind ∷ Some y.kind ∷ [] in
    let h : AreOperands P = (inl z.made, (inl x.made, (inl y.made, tt))) in
    let kp = three_kinds p tc ta tb (Some z.kind) (Some x.kind) (Some y.kind) z.plain x.plain y.plain in
    let n = plain_fine asked p place forms.CondNode w f l P refl refl h so ks kp in
    let k = choice_known z.kind x.kind y.kind n.fit in
    record {
      made = (refl, h);
      kind = k.0;
      plain = plain_step asked p place forms.CondNode w f l P refl refl h so ks kp ∙ k.1;
      as' = tt;
      good = three_good asked s place forms.CondNode w f l k.0 refl refl uc ua ub z.kind x.kind y.kind z.good x.good
          y.good (fine_same forms.CondNode refl asked p s place w f P S ks tt ow tt tt n) k.1;
    }
