-- The parts of a statement one behind the other: expressions and statements.
use Rattle.std.proofs.Common.{◌≡◌, ℕ, suc, ◌≤◌, ◌<◌, ◌^◌, [], Option, None, Some, Bool, true, false, refl, ap}
use Rattle.std.proofs.Common.{sym, ◌∙◌, subst, inl, inr, ◌⊎◌, arith, length}
use Rattle.cl_tree.specs.declared.tree.Form.{Form}
use Rattle.cl_tree.specs.declared.tree.Form.TheVariants as forms
use Rattle.cl_tree.specs.Syntax.{Syntax, node, Forest, none, more, first_of, last_of}
use Rattle.cl_meaning.specs.declared.kind.Kind.{Kind}
use Rattle.cl_meaning.specs.declared.kind.Role.{Role}
use Rattle.cl_meaning.specs.declared.kind.Role.TheVariants as roles
use Rattle.cl_meaning.specs.Environment.{Env}
use Rattle.cl_meaning.specs.Visible.{Before, is_front, behind, behind_parts, later, kind_of, role_of}
use Rattle.cl_meaning.specs.Faults.{Asked}
use Rattle.cl_check_sound.specs.Shape.{IsExpressionOf, IsStatementOf}
use Rattle.cl_check_sound.specs.Sound.{SoundTree, SoundParts}
use Rattle.cl_check_sound.proofs.Neutral.{neutral}
use Rattle.cl_short_vec.specs.declared.roles.Role.TheVariants.{Free}
use Rattle.cl_short_vec.specs.Kinds.{Names}
use Rattle.cl_short_vec.specs.Kinds as kinds
use Rattle.cl_short_vec.specs.Marks.{marked, marked_parts}
use Rattle.cl_short_vec.specs.Faults.{refusals}
use Rattle.cl_short_vec.specs.Scalar.{scalar}
use Rattle.cl_short_vec.specs.Unit.{scalarised, all_scalarised}
use Rattle.cl_short_vec_faults.specs.PlainForm.{plain_of, plains_of}
use Rattle.cl_short_vec_faults.specs.Plainly.{NoPoint, NoPoints}
use Rattle.cl_short_vec_faults.specs.SoundBut.{SoundBut, AllSoundBut}
use Rattle.cl_short_vec_faults.specs.Beside.{Beside}
use Rattle.cl_short_vec_faults.specs.Leaves.{LeavesFit, AllLeavesFit}
use Rattle.cl_short_vec_faults.specs.UnitLaw.{DeclaredNames, AllDeclaredNames}
use Rattle.cl_short_vec_faults.proofs.Ordered.{Ordered, OrderedIn, ordered_le, ordered_in_le}
use Rattle.cl_short_vec_faults.proofs.TokenFacts.{Facts, AllFacts}
use Rattle.cl_short_vec_faults.proofs.Refused.{AllStay, free_apart, expression_names}
use Rattle.cl_short_vec_faults.proofs.Expressions.{claim}
use Rattle.cl_short_vec_faults.proofs.BesideMoves.{beside_later}
use Rattle.cl_short_vec_faults.proofs.OrderedMarks.{same_tree}
use Rattle.cl_short_vec_faults.proofs.StatementFaults.{sound_but}

-- ---- expressions

-- an expression stands for itself without vectors
pub expression_scalar : (names : Names) (t : Syntax) → IsExpressionOf true t →
    scalarised (marked names t) ≡ scalar (marked names t)
unfolding scalarised marked
expression_scalar names (node forms.UnitNode w f l ps) h = absurd h
expression_scalar names (node forms.FunctionNode w f l ps) h = absurd h
expression_scalar names (node forms.BlockNode w f l ps) h = absurd h
expression_scalar names (node forms.IfNode w f l ps) h = absurd h
expression_scalar names (node forms.WhileNode w f l ps) h = absurd h
expression_scalar names (node forms.DoNode w f l ps) h = absurd h
expression_scalar names (node forms.ForNode w f l ps) h = absurd h
expression_scalar names (node forms.SwitchNode w f l ps) h = absurd h
expression_scalar names (node forms.CaseNode w f l ps) h = absurd h
expression_scalar names (node forms.DefaultNode w f l ps) h = absurd h
expression_scalar names (node forms.SimpleNode w f l ps) h = absurd h
expression_scalar names (node forms.DeclareNode w f l ps) h = absurd h
expression_scalar names (node form w f l ps) h = refl

-- a statement declares no name for what stands behind it
pub statement_names : (names : Names) (t : Syntax) → IsStatementOf true t → kinds.behind names t ≡ names
statement_names names (node forms.DeclareNode w f l ps) h = absurd h
statement_names names (node forms.ParamsNode w f l ps) h = absurd h
statement_names names (node forms.FunctionNode w f l ps) h = absurd h
statement_names names (node form w f l ps) h = refl

-- An expression at which no vector may stand: no node of what stands for it is at fault, it has the kind of the plain
-- form, and both leave what is visible.
pub record Shown (asked : Asked) (p s : Env) (place : Role) (t q : Syntax) : Type 0 where
  pub sound : SoundBut asked s place q
  pub kind : kind_of s q ≡ kind_of p (plain_of t)
  pub plain : behind p (plain_of t) ≡ p
  pub form : behind s q ≡ s

pub shown : (asked : Asked) (names : Names) (n : ℕ) (p s : Env) (place : Role) (t : Syntax) → IsExpressionOf true t →
    NoPoint t → Beside asked names n p s → refusals Free (marked names t) ≡ [] →
    SoundTree asked p place (plain_of t) → Shown asked p s place t (scalarised (marked names t))
shown asked names n p s place t h np b r so =
    let x = claim asked p s names Free place t h np b.plainly (b.gives, b.alone) r (free_apart t names h r) so in
    subst (Shown asked p s place t) (sym (expression_scalar names t h)) (record {
      sound = sound_but asked s place (scalar (marked names t)) x.good.sound;
      kind = x.good.kind ∙ sym x.plain;
      plain = neutral p (plain_of t) x.made;
      form = neutral s (scalar (marked names t)) x.good.made;
    })

-- ---- statements

-- a statement that stands there goes on side by side, and leaves the scopes
pub record Going (asked : Asked) (names : Names) (n : ℕ) (p s : Env) (t q : Syntax) : Type 0 where
  pub sound : SoundBut asked s roles.Other q
  pub beside : Beside asked names n (behind p (plain_of t)) (behind s q)
  pub plain : (behind p (plain_of t)).scopes ≡ p.scopes
  pub form : (behind s q).scopes ≡ s.scopes
  pub body : (behind p (plain_of t)).in_body ≡ p.in_body
  pub kind : kind_of s q ≡ kind_of p (plain_of t)
  pub flags : (behind p (plain_of t)).flags ≡ p.flags

-- what a statement needs
pub record Placed (asked : Asked) (names : Names) (n : ℕ) (p s : Env) (t : Syntax) : Type 0 where
  pub beside : Beside asked names n p s
  pub in_body : p.in_body ≡ false
  pub flags : p.flags ≡ false
  pub deep : 2 ≤ length s.scopes
  pub ordered : Ordered t
  pub from : n ≤ first_of t
  pub few : last_of t < 2 ^ 64
  pub facts : Facts t
  pub no_point : NoPoint t
  pub declared : DeclaredNames t
  pub stays : refusals Free (marked names t) ≡ []
  pub leaves : LeavesFit p (marked names t)
  pub sound : SoundTree asked p roles.Other (plain_of t)

abbrev pub Goes : Syntax → Type 0
Goes t = (asked : Asked) (names : Names) (n : ℕ) (p s : Env) → IsStatementOf true t → Placed asked names n p s t →
    Going asked names (suc (last_of t)) p s t (scalarised (marked names t))

-- ---- parts

-- what is visible goes on side by side from part to part, and names are those behind a part
pub record Plain (form : Form) : Type 0 where
  pub goes : (asked : Asked) (names : Names) (n : ℕ) (p s : Env) (front : Bool) (t q : Syntax) (j k : Option Kind) →
      k ≡ j → Beside asked names n p s → Beside asked names n (later p form front t j) (later s form front q k)
  pub scopes : (env : Env) (front : Bool) (p : Syntax) (k : Option Kind) →
      (later env form front p k).scopes ≡ env.scopes
  pub body : (env : Env) (front : Bool) (p : Syntax) (k : Option Kind) →
      (later env form front p k).in_body ≡ env.in_body
  pub names : (all : Forest) (names : Names) (front : Bool) (p : Syntax) →
      kinds.later form all names front p ≡ kinds.behind names p
  pub flags : (env : Env) (front : Bool) (p : Syntax) (k : Option Kind) →
      (later env form front p k).flags ≡ env.flags

-- the role of a part depends on whether it is the first
abbrev pub Roles : Form → Type 0
Roles form = (b c : Before) (p q : Syntax) → is_front b ≡ is_front c → role_of form b p ≡ role_of form c q

-- each part is an expression, or a statement that is tested nowhere
abbrev pub Mixed : Form → (front : Bool) → Forest → Type 0
Mixed form front none = Unit {0}
Mixed form front (more p ps) = (IsExpressionOf true p ⊎ (IsStatementOf true p × ((b : Before) (q : Syntax) →
    is_front b ≡ front → role_of form b q ≡ roles.Other))) × Mixed form false ps

-- and each goes on
abbrev pub AllGo : Forest → Type 0
AllGo none = Unit {0}
AllGo (more p ps) = Goes p × AllGo ps

-- what the parts need
pub record PartsPlaced (asked : Asked) (form : Form) (all : Forest) (front : Bool) (c : Before) (names : Names)
    (n m : ℕ) (p s : Env) (ps : Forest) : Type 0 where
  pub beside : Beside asked names n p s
  pub in_body : p.in_body ≡ false
  pub flags : p.flags ≡ false
  pub deep : 2 ≤ length s.scopes
  pub ordered : OrderedIn n ps m
  pub few : m ≤ 2 ^ 64
  pub facts : AllFacts ps
  pub no_point : NoPoints ps
  pub declared : AllDeclaredNames ps
  pub stays : AllStay (marked_parts form all names front ps)
  pub leaves : AllLeavesFit p form front None (marked_parts form all names front ps)
  pub sound : SoundParts asked p form c (plains_of ps)

-- behind the parts
pub record PartsGoing (asked : Asked) (form : Form) (front : Bool) (b : Before) (names : Names) (m : ℕ) (p s : Env)
    (ps qs : Forest) : Type 0 where
  pub sound : AllSoundBut asked s form b qs
  pub after : Names
  pub beside : Beside asked after m (behind_parts p form front (plains_of ps)) (behind_parts s form front qs)
  pub plain : (behind_parts p form front (plains_of ps)).scopes ≡ p.scopes
  pub form' : (behind_parts s form front qs).scopes ≡ s.scopes

-- where a part stands, and what is visible behind it
step_names : (asked : Asked) (names after : Names) (n : ℕ) (p s p' s' : Env) → after ≡ names → p' ≡ p → s' ≡ s →
    Beside asked names n p s → Beside asked after n p' s'
step_names asked names after n p s p' s' e f g h = subst (λ z. Beside asked z n p' s') (sym e)
    (subst (λ z. Beside asked names n z s') (sym f) (subst (λ z. Beside asked names n p z) (sym g) h))

-- one part and those behind it
parts_then : (asked : Asked) (form : Form) (front : Bool) (b : Before) (names after : Names) (m : ℕ) (p s : Env)
    (t q : Syntax) (ts qs : Forest) → is_front b ≡ front → SoundBut asked s (role_of form b q) q →
    (later (behind p (plain_of t)) form front (plain_of t) (kind_of p (plain_of t))).scopes ≡ p.scopes →
    (later (behind s q) form front q (kind_of s q)).scopes ≡ s.scopes →
    PartsGoing asked form false (Some (last_of q)) after m
    (later (behind p (plain_of t)) form front (plain_of t) (kind_of p (plain_of t)))
    (later (behind s q) form front q (kind_of s q)) ts qs →
    PartsGoing asked form front b names m p s (more t ts) (more q qs)
unfolding plains_of behind_parts
parts_then asked form front b names after m p s t q ts qs fb so kp ks r = record {
  sound = (
    so,
    subst (λ z. AllSoundBut asked (later (behind s q) form z q (kind_of s q)) form (Some (last_of q)) qs)
        (sym fb) r.sound,
  );
  after = r.after;
  beside = r.beside;
  plain = r.plain ∙ kp;
  form' = r.form' ∙ ks;
}

-- what is needed behind a part
next_placed : (asked : Asked) (form : Form) (all : Forest) (front : Bool) (c : Before) (names : Names) (n m : ℕ)
    (p s s' : Env) (t : Syntax) (ts : Forest) → is_front c ≡ front →
    PartsPlaced asked form all front c names n m p s (more t ts) →
    (later (behind p (plain_of t)) form front (plain_of t) (kind_of p (plain_of t))).in_body ≡ false →
    (later (behind p (plain_of t)) form front (plain_of t) (kind_of p (plain_of t))).flags ≡ false →
    s'.scopes ≡ s.scopes → Beside asked (kinds.later form all names front t) (suc (last_of t))
    (later (behind p (plain_of t)) form front (plain_of t) (kind_of p (plain_of t))) s' →
    PartsPlaced asked form all false (Some (last_of (plain_of t))) (kinds.later form all names front t)
    (suc (last_of t)) m (later (behind p (plain_of t)) form front (plain_of t) (kind_of p (plain_of t))) s' ts
unfolding plains_of marked_parts LeavesFit
next_placed asked form all front c names n m p s s' t ts fc h ib fl sc b = record {
  beside = b;
  in_body = ib;
  flags = fl;
  deep = subst (λ z. 2 ≤ length z) (sym sc) h.deep;
  ordered = h.ordered.2;
  few = h.few;
  facts = h.facts.1;
  no_point = h.no_point.1;
  declared = h.declared.1;
  stays = h.stays.1;
  leaves = subst (λ z. AllLeavesFit (later (behind p (plain_of z)) form front (plain_of z) (kind_of p (plain_of z)))
      form
      false None (marked_parts form all (kinds.later form all names front t) false ts)) (same_tree names t) h.leaves.2;
  sound = subst (λ z. SoundParts asked (later (behind p (plain_of t)) form z (plain_of t) (kind_of p (plain_of t))) form
      (Some (last_of (plain_of t))) (plains_of ts)) fc h.sound.1;
}

part_leaves : (p : Env) (form : Form) (front : Bool) (names : Names) (all : Forest) (t : Syntax) (ts : Forest) →
    AllLeavesFit p form front None (marked_parts form all names front (more t ts)) → LeavesFit p (marked names t)
unfolding marked_parts LeavesFit
part_leaves p form front names all t ts h = h.1

-- what goes on behind a part
abbrev pub Rest : Asked → Form → (all : Forest) (names : Names) (front : Bool) (m : ℕ) (p s : Env) (t : Syntax)
    (ts : Forest) → Type 0
Rest asked form all names front m p s t ts = PartsPlaced asked form all false (Some (last_of (plain_of t)))
    (kinds.later form all names front t) (suc (last_of t)) m
    (later (behind p (plain_of t)) form front (plain_of t) (kind_of p (plain_of t)))
    (later (behind s (scalarised (marked names t))) form front (scalarised (marked names t))
    (kind_of s (scalarised (marked names t)))) ts →
    PartsGoing asked form false (Some (last_of (scalarised (marked names t)))) (kinds.later form all names front t) m
    (later (behind p (plain_of t)) form front (plain_of t) (kind_of p (plain_of t)))
    (later (behind s (scalarised (marked names t))) form front (scalarised (marked names t))
    (kind_of s (scalarised (marked names t)))) ts
    (all_scalarised (marked_parts form all (kinds.later form all names front t) false ts))

-- an expression, whose role is the same on both sides
pub expression_step : (asked : Asked) (form : Form) → Plain form → (all : Forest) (names : Names) (front : Bool)
    (b c : Before) (n m : ℕ) (p s : Env) (t : Syntax) (ts : Forest) → is_front b ≡ front → is_front c ≡ front →
    IsExpressionOf true t → role_of form c (plain_of t) ≡ role_of form b (scalarised (marked names t)) →
    PartsPlaced asked form all front c names n m p s (more t ts) → Rest asked form all names front m p s t ts →
    PartsGoing asked form front b names m p s (more t ts)
    (all_scalarised (marked_parts form all names front (more t ts)))
unfolding all_scalarised marked_parts plains_of behind_parts
expression_step asked form pl all names front b c n m p s t ts fb fc e ro h rest =
    let P = plain_of t in
    let q = scalarised (marked names t) in
    let names' = kinds.later form all names front t in
    let s' = later (behind s q) form front q (kind_of s q) in
    let x = shown asked names n p s (role_of form c P) t e h.no_point.0 h.beside h.stays.0 h.sound.0 in
    let l = h.ordered.0 in
    let d = ordered_le t h.ordered.1 in
    let b' = pl.goes asked names' (suc (last_of t)) (behind p P) (behind s q) front P q (kind_of p P) (kind_of s q)
    x.kind
    (step_names asked names names' (suc (last_of t)) p s (behind p P) (behind s q)
    (pl.names all names front t ∙ expression_names names t e) x.plain x.form
    (beside_later asked names n (suc (last_of t)) p s (omega arith) h.beside)) in
    let sc = pl.scopes (behind s q) front q (kind_of s q) ∙ ap (λ z. z.scopes) x.form in
    parts_then asked form front b names names' m p s t q ts (all_scalarised (marked_parts form all names' false ts)) fb
    (subst (λ z. SoundBut asked s z q) ro x.sound)
    (pl.scopes (behind p P) front P (kind_of p P) ∙ ap (λ z. z.scopes) x.plain) sc
    (rest (next_placed asked form all front c names n m p s s' t ts fc h
    (pl.body (behind p P) front P (kind_of p P) ∙ (ap (λ z. z.in_body) x.plain ∙ h.in_body))
    (pl.flags (behind p P) front P (kind_of p P) ∙ (ap (λ z. z.flags) x.plain ∙ h.flags)) sc b'))

pub few_in : (l m k : ℕ) → suc l ≤ m → m ≤ k → l < k
few_in l m k a b = omega arith

-- a statement, which is tested on neither side
pub statement_step : (asked : Asked) (form : Form) → Plain form → (all : Forest) (names : Names) (front : Bool)
    (b c : Before) (n m : ℕ) (p s : Env) (t : Syntax) (ts : Forest) → is_front b ≡ front → is_front c ≡ front →
    IsStatementOf true t → Goes t → role_of form c (plain_of t) ≡ roles.Other →
    role_of form b (scalarised (marked names t)) ≡ roles.Other →
    PartsPlaced asked form all front c names n m p s (more t ts) → Rest asked form all names front m p s t ts →
    PartsGoing asked form front b names m p s (more t ts)
    (all_scalarised (marked_parts form all names front (more t ts)))
unfolding all_scalarised marked_parts plains_of behind_parts
statement_step asked form pl all names front b c n m p s t ts fb fc e go rc rb h rest =
    let P = plain_of t in
    let q = scalarised (marked names t) in
    let names' = kinds.later form all names front t in
    let s' = later (behind s q) form front q (kind_of s q) in
    let end = ordered_in_le ts (suc (last_of t)) m h.ordered.2 in
    let small = h.few in
    let few : last_of t < 2 ^ 64 = omega (arith, end, small) in
    let x = go asked names n p s e (record {
      beside = h.beside;
      in_body = h.in_body;
      flags = h.flags;
      deep = h.deep;
      ordered = h.ordered.1;
      from = h.ordered.0;
      few = few;
      facts = h.facts.0;
      no_point = h.no_point.0;
      declared = h.declared.0;
      stays = h.stays.0;
      leaves = part_leaves p form front names all t ts h.leaves;
      sound = subst (λ z. SoundTree asked p z P) rc h.sound.0;
    }) in
    let b' = pl.goes asked names' (suc (last_of t)) (behind p P) (behind s q) front P q (kind_of p P) (kind_of s q)
    x.kind
    (subst (λ z. Beside asked z (suc (last_of t)) (behind p P) (behind s q))
    (sym (pl.names all names front t ∙ statement_names names t e)) x.beside) in
    let sc = pl.scopes (behind s q) front q (kind_of s q) ∙ x.form in
    parts_then asked form front b names names' m p s t q ts (all_scalarised (marked_parts form all names' false ts)) fb
    (subst (λ z. SoundBut asked s z q) (sym rb) x.sound)
    (pl.scopes (behind p P) front P (kind_of p P) ∙ x.plain) sc
    (rest (next_placed asked form all front c names n m p s s' t ts fc h
    (pl.body (behind p P) front P (kind_of p P) ∙ (x.body ∙ h.in_body))
    (pl.flags (behind p P) front P (kind_of p P) ∙ (x.flags ∙ h.flags)) sc b'))

-- no parts
pub nothing_goes : (asked : Asked) (form : Form) (all : Forest) (names : Names) (front : Bool) (b c : Before) (n m : ℕ)
    (p s : Env) → PartsPlaced asked form all front c names n m p s none →
    PartsGoing asked form front b names m p s none (all_scalarised (marked_parts form all names front none))
unfolding all_scalarised marked_parts plains_of behind_parts
nothing_goes asked form all names front b c n m p s h = record {
  sound = tt;
  after = names;
  beside = beside_later asked names n m p s h.ordered h.beside;
  plain = refl;
  form' = refl;
}

-- parts of a statement
pub parts_go : (asked : Asked) (form : Form) → Plain form → Roles form → (all : Forest) (names : Names) (front : Bool)
    (b c : Before) (n m : ℕ) (p s : Env) (ts : Forest) → is_front b ≡ front → is_front c ≡ front → Mixed form front ts →
    AllGo ts → PartsPlaced asked form all front c names n m p s ts →
    PartsGoing asked form front b names m p s ts (all_scalarised (marked_parts form all names front ts))
parts_go asked form pl ro all names front b c n m p s none fb fc mx go h =
    nothing_goes asked form all names front b c n m p s h
parts_go asked form pl ro all names front b c n m p s (more t ts) fb fc (inl e, mx) go h =
    let P = plain_of t in
    let q = scalarised (marked names t) in
    expression_step asked form pl all names front b c n m p s t ts fb fc e (ro c b P q (fc ∙ sym fb)) h
    (λ r. parts_go asked form pl ro all (kinds.later form all names front t) false (Some (last_of q)) (Some (last_of P))
    (suc (last_of t)) m (later (behind p P) form front P (kind_of p P)) (later (behind s q) form front q (kind_of s
    q)) ts
    refl refl mx go.1 r)
parts_go asked form pl ro all names front b c n m p s (more t ts) fb fc (inr (e, rs), mx) go h =
    let P = plain_of t in
    let q = scalarised (marked names t) in
    statement_step asked form pl all names front b c n m p s t ts fb fc e go.0 (rs c P fc) (rs b q fb) h
    (λ r. parts_go asked form pl ro all (kinds.later form all names front t) false (Some (last_of q)) (Some (last_of P))
    (suc (last_of t)) m (later (behind p P) form front P (kind_of p P)) (later (behind s q) form front q (kind_of s
    q)) ts
    refl refl mx go.1 r)
