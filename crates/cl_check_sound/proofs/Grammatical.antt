-- A unit that the grammar spells has the wide shape of a unit.
use Rattle.std.proofs.Common.{◌≡◌, ℕ, zero, suc, ◌≤◌, nat_eq, List, [], ◌∷◌, ◌++◌, append_assoc, Option, None, Some}
use Rattle.std.proofs.Common.{Bool, true, false, refl, ap, sym, ◌∙◌, subst, inl, inr, ◌⊎◌, arith, eqb-true}
use Rattle.std.proofs.lemmas.Bool.{false≢true}
use Rattle.std.specs.Prelude.{codes}
use Rattle.cl_model.specs.Lists.{Each}
use Rattle.cl_tree.specs.declared.terminal.Terminal.{Terminal}
use Rattle.cl_tree.specs.declared.terminal.Terminal.TheVariants as terminals
use Rattle.cl_tree.specs.declared.terminal.Leaf.{Leaf}
use Rattle.cl_tree.specs.declared.tree.Form.TheVariants as forms
use Rattle.cl_tree.specs.Syntax.{Syntax, node, Forest, none, more, joined}
use Rattle.cl_tree.specs.Nodes.{Spot, spelled}
use Rattle.cl_tree.specs.Precedence.{looseness, joins, form_of, assigns, prefixes, qualifies}
use Rattle.cl_tree.specs.Grammar.{Sort, Source, Item, Head, Attribute, Result, Params, Param, TypeName, Base, Core}
use Rattle.cl_tree.specs.Grammar.{Star, Declare, Declarator, Dimension, Init, Initializers, Elements, Block, Line}
use Rattle.cl_tree.specs.Grammar.{Start, Simple, Statement, Expr, Assign, Cond, Cast, Unary, Postfix, Primary, Level}
use Rattle.cl_tree.specs.Grammar.{Qualifier, Maybe, Many, Just, Comma, Space, Value, one, list}
use Rattle.cl_meaning.specs.declared.operators.Prefix.{Prefix}
use Rattle.cl_meaning.specs.declared.operators.Prefix.TheVariants as prefix_kinds
use Rattle.cl_meaning.specs.declared.operators.Postfix.TheVariants as postfix_kinds
use Rattle.cl_meaning.specs.Operators.{binary_in, setting_in, prefix_in, postfix_in}
use Rattle.cl_meaning.specs.Types.{base_in}
use Rattle.cl_meaning.specs.Kinds.{is_some}
use Rattle.cl_check_sound.specs.Shape.{IsType, PrefixOf, selects, indexes, IsExpressionOf, AreExpressionsOf, IsListOf}
use Rattle.cl_check_sound.specs.Shape.{AreLengthsOf, IsDeclaratorOf, AreDeclaratorsOf, IsDeclarationOf, IsOptionalOf}
use Rattle.cl_check_sound.specs.Shape.{IsSimpleOf, IsStatementOf, AreStatementsOf, AreLinesOf, IsBlockOf, IsHeadOf}
use Rattle.cl_check_sound.specs.Shape.{IsResult, IsParam, AreParams, BehindHeadsOf, IsFunctionOf, IsPrototypeOf}
use Rattle.cl_check_sound.specs.Shape.{AreItemsOf, IsUnitOf}
use Rattle.cl_check_sound.proofs.WordFacts.{is_operand, Word}
use Rattle.cl_check_sound.proofs.TypeFacts.{words, Qualifiers, BaseOk, type_spelled, qualifiers_append}

-- ---- words of leaves

abbrev pub AllWords : List Leaf → Type 0
AllWords x = Each (λ (leaf : Leaf). Word leaf.terminal leaf.word) x

pub left : (x y : List Leaf) → AllWords (x ++ y) → AllWords x
left [] y h = tt
left (a ∷ x) y h = (h.0, left x y h.1)

pub right : (x y : List Leaf) → AllWords (x ++ y) → AllWords y
right [] y h = h
right (a ∷ x) y h = right x y h.1

-- ---- what each sort is

abbrev pub AllParts : (Syntax → Type 0) → Forest → Type 0
AllParts P none = Unit {0}
AllParts P (more t ts) = P t × AllParts P ts

abbrev pub MaybePart : (Syntax → Type 0) → Forest → Type 0
MaybePart P none = Unit {0}
MaybePart P (more t none) = P t
MaybePart P ts = ⊥

abbrev pub IsSpace : Syntax → Type 0
IsSpace (node forms.SpaceNode w f l none) = Unit {0}
IsSpace t = ⊥

abbrev pub IsStar : Syntax → Type 0
IsStar (node forms.StarNode w f l none) = Unit {0}
IsStar t = ⊥

abbrev pub IsAttribute : Syntax → Type 0
IsAttribute (node forms.AttributeNode w f l parts) = AreExpressionsOf true parts
IsAttribute t = ⊥

abbrev pub PartOf : Sort → Syntax → Type 0
PartOf Source t = IsUnitOf true t
PartOf Item t = IsFunctionOf true t ⊎ (IsPrototypeOf true t ⊎ IsDeclarationOf true t)
PartOf Head t = IsHeadOf true t
PartOf Attribute t = IsAttribute t
PartOf Result t = IsResult t
PartOf Param t = IsParam t
PartOf TypeName t = IsType t
PartOf Star t = IsStar t
PartOf Declare t = IsDeclarationOf true t
PartOf Declarator t = IsDeclaratorOf true t
PartOf Init t = IsExpressionOf true t ⊎ IsListOf true t
PartOf Initializers t = IsListOf true t
PartOf Block t = IsBlockOf true t
PartOf Line t = IsDeclarationOf true t ⊎ IsStatementOf true t
PartOf Start t = IsDeclarationOf true t ⊎ IsSimpleOf true t
PartOf Simple t = IsSimpleOf true t
PartOf Statement t = IsStatementOf true t
PartOf Expr t = IsExpressionOf true t
PartOf Assign t = IsExpressionOf true t
PartOf Cond t = IsExpressionOf true t
PartOf Cast t = IsExpressionOf true t
PartOf Unary t = IsExpressionOf true t
PartOf Postfix t = IsExpressionOf true t
PartOf Primary t = IsExpressionOf true t
PartOf (Level k) t = IsExpressionOf true t
PartOf Space t = IsSpace t
PartOf s t = Unit {0}

-- a base type alone, and behind a sign
abbrev pub CoreOk : List (List ℕ) → Type 0
CoreOk ws = BaseOk ws × BaseOk (codes "signed" ∷ ws) × BaseOk (codes "unsigned" ∷ ws)

abbrev pub QualifiersIf : Bool → List Spot → Type 0
QualifiersIf b a = b ≡ false → Qualifiers (words a)

abbrev pub ManyOf : Sort → List Spot → Forest → Type 0
ManyOf (Just s) a ts = AllParts (PartOf s) ts
ManyOf (Comma s) a ts = AllParts (PartOf s) ts
ManyOf Dimension a ts = AllParts (IsExpressionOf true) ts
ManyOf (Qualifier b) a ts = QualifiersIf b a
ManyOf s a ts = Unit {0}

abbrev pub ListOf : Sort → List Spot → Forest → Type 0
ListOf (Maybe s) a ts = MaybePart (PartOf s) ts
ListOf (Just s) a ts = AllParts (PartOf s) ts
ListOf (Comma s) a ts = AllParts (PartOf s) ts
ListOf (Many s) a ts = ManyOf s a ts
ListOf Dimension a ts = AllParts (IsExpressionOf true) ts
ListOf Elements a ts = AllParts (IsExpressionOf true) ts
ListOf Params a ts = AllParts IsParam ts
ListOf (Qualifier b) a ts = QualifiersIf b a
ListOf Base a ts = BaseOk (words a)
ListOf Core a ts = CoreOk (words a)
ListOf s a ts = Unit {0}

abbrev pub ShapeOf : Sort → Value → Type 0
ShapeOf s (one t) = PartOf s t
ShapeOf s (list a ts) = ListOf s a ts

-- ---- lists of parts

parts_joined : (P : Syntax → Type 0) (ts us : Forest) → AllParts P ts → AllParts P us → AllParts P (joined ts us)
parts_joined P none us h k = k
parts_joined P (more t ts) us h k = (h.0, parts_joined P ts us h.1 k)

pub many_none : (s : Sort) → ManyOf s [] none
many_none (Just s) = tt
many_none (Comma s) = tt
many_none Dimension = tt
many_none (Qualifier b) = λ e. tt
many_none s = tt

pub many_and : (s : Sort) (a b : List Spot) (ts us : Forest) → ListOf s a ts → ManyOf s b us →
    ManyOf s (a ++ b) (joined ts us)
many_and (Just s) a b ts us h k = parts_joined (PartOf s) ts us h k
many_and (Comma s) a b ts us h k = parts_joined (PartOf s) ts us h k
many_and Dimension a b ts us h k = parts_joined (IsExpressionOf true) ts us h k
many_and (Qualifier z) a b ts us h k = λ e. qualifiers_append a b (h e) (k e)
many_and s a b ts us h k = tt

pub are_expressions : (ts : Forest) → AllParts (IsExpressionOf true) ts → AreExpressionsOf true ts
are_expressions none h = tt
are_expressions (more t ts) h = (h.0, are_expressions ts h.1)

pub are_items : (ts : Forest) → AllParts (PartOf Item) ts → AreItemsOf true ts
are_items none h = tt
are_items (more t ts) h = (h.0, are_items ts h.1)

pub are_lines : (ts : Forest) → AllParts (PartOf Line) ts → AreLinesOf true ts
are_lines none h = tt
are_lines (more t ts) h = (h.0, are_lines ts h.1)

pub are_statements : (ts : Forest) → AllParts (IsStatementOf true) ts → AreStatementsOf true ts
are_statements none h = tt
are_statements (more t ts) h = (h.0, are_statements ts h.1)

pub are_declarators : (ts : Forest) → AllParts (IsDeclaratorOf true) ts → AreDeclaratorsOf true ts
are_declarators none h = tt
are_declarators (more t ts) h = (h.0, are_declarators ts h.1)

pub are_params : (ts : Forest) → AllParts IsParam ts → AreParams ts
are_params none h = tt
are_params (more t ts) h = (h.0, are_params ts h.1)

pub are_lengths : (ts : Forest) → AllParts (IsExpressionOf true) ts → AreLengthsOf true ts
are_lengths none h = tt
are_lengths (more t none) h = inl h.0
are_lengths (more t (more u us)) h = (h.0, are_lengths (more u us) h.1)

pub are_set : (ts : Forest) (i : Syntax) → AllParts (IsExpressionOf true) ts → IsExpressionOf true i ⊎ IsListOf true i →
    AreLengthsOf true (joined ts (more i none))
are_set none i h k = k
are_set (more t none) i h k = (h.0, k)
are_set (more t (more u us)) i h k = (h.0, are_set (more u us) i h.1 k)

pub is_optional : (ts : Forest) → MaybePart (IsExpressionOf true) ts → IsOptionalOf true ts
is_optional none h = tt
is_optional (more t none) h = h
is_optional (more t (more u us)) h = absurd h

pub maybe_parts : (P : Syntax → Type 0) (ts : Forest) → MaybePart P ts → AllParts P ts
maybe_parts P none h = tt
maybe_parts P (more t none) h = (h, tt)
maybe_parts P (more t (more u us)) h = absurd h

-- ---- declarators

first_of : (p : Syntax) (ps : Forest) → AreLengthsOf true (more p ps) → IsExpressionOf true p ⊎ IsListOf true p
first_of p none h = h
first_of p (more q qs) h = inl h.0

plain_declarator : (w : List ℕ) (f l : ℕ) (p : Syntax) (ps : Forest) → IsExpressionOf true p ⊎ IsListOf true p →
    AreLengthsOf true (more p ps) → IsDeclaratorOf true (node forms.DeclaratorNode w f l (more p ps))
plain_declarator w f l (node forms.StarNode w' f' l' qs) ps (inl h) k = absurd h
plain_declarator w f l (node forms.StarNode w' f' l' qs) ps (inr h) k = absurd h
plain_declarator w f l p ps h k = k

lengths_declarator : (w : List ℕ) (f l : ℕ) (ps : Forest) → AreLengthsOf true ps →
    IsDeclaratorOf true (node forms.DeclaratorNode w f l ps)
lengths_declarator w f l none h = tt
lengths_declarator w f l (more p ps) h = plain_declarator w f l p ps (first_of p ps h) h

pub starred : (w : List ℕ) (f l : ℕ) (ss ps : Forest) → MaybePart IsStar ss → AreLengthsOf true ps →
    IsDeclaratorOf true (node forms.DeclaratorNode w f l (joined ss ps))
starred w f l none ps h k = lengths_declarator w f l ps k
starred w f l (more (node forms.StarNode w' f' l' none) none) ps h k = k
starred w f l (more (node forms.StarNode w' f' l' none) (more u us)) ps h k = absurd h
starred w f l (more t none) ps h k = absurd h
starred w f l (more t (more u us)) ps h k = absurd h

pub param_shape : (w : List ℕ) (f l : ℕ) (t : Syntax) (ss : Forest) → IsType t → MaybePart IsStar ss →
    IsParam (node forms.ParamNode w f l (more t ss))
param_shape w f l t none h k = h
param_shape w f l t (more (node forms.StarNode w' f' l' none) none) h k = h
param_shape w f l t (more (node forms.StarNode w' f' l' none) (more u us)) h k = absurd k
param_shape w f l t (more s none) h k = absurd k
param_shape w f l t (more s (more u us)) h k = absurd k

-- ---- types

pub type_with : (w : List ℕ) (f l : ℕ) (s : Syntax) → IsSpace s → is_some (base_in w) ≡ true →
    IsType (node forms.TypeNode w f l (more s none))
type_with w f l (node forms.SpaceNode w' f' l' none) h k = k
type_with w f l s h k = absurd h

pub base_type_word : (w : List ℕ) → Word terminals.TypeWord w → BaseOk (w ∷ [])
base_type_word w h = record { base = h.0; bases = ((h.1, h.2), tt) }

pub base_of_sign : (w : List ℕ) → Word terminals.Sign w → BaseOk (w ∷ [])
base_of_sign w (inl e) = subst (λ z. BaseOk (z ∷ [])) (sym e) (record { base = refl; bases = ((refl, refl), tt) })
base_of_sign w (inr e) = subst (λ z. BaseOk (z ∷ [])) (sym e) (record { base = refl; bases = ((refl, refl), tt) })

pub sign_core : (w : List ℕ) (ws : List (List ℕ)) → Word terminals.Sign w → CoreOk ws → BaseOk (w ∷ ws)
sign_core w ws (inl e) h = subst (λ z. BaseOk (z ∷ ws)) (sym e) h.1
sign_core w ws (inr e) h = subst (λ z. BaseOk (z ∷ ws)) (sym e) h.2

pub one_word : (w : List ℕ) (v : List ℕ) → w ≡ v → CoreOk (v ∷ []) → CoreOk (w ∷ [])
one_word w v e h = subst (λ z. CoreOk (z ∷ [])) (sym e) h

pub core_of_char : CoreOk (codes "char" ∷ [])
core_of_char = (
  record { base = refl; bases = ((refl, refl), tt) },
  record { base = refl; bases = ((refl, refl), ((refl, refl), tt)) },
  record { base = refl; bases = ((refl, refl), ((refl, refl), tt)) },
)

pub core_of_int : CoreOk (codes "int" ∷ [])
core_of_int = (
  record { base = refl; bases = ((refl, refl), tt) },
  record { base = refl; bases = ((refl, refl), ((refl, refl), tt)) },
  record { base = refl; bases = ((refl, refl), ((refl, refl), tt)) },
)

pub core_of_length : (w : List ℕ) → Word terminals.Length w → CoreOk (w ∷ [])
core_of_length w (inl e) = subst (λ z. CoreOk (z ∷ [])) (sym e) (
  record { base = refl; bases = ((refl, refl), tt) },
  record { base = refl; bases = ((refl, refl), ((refl, refl), tt)) },
  record { base = refl; bases = ((refl, refl), ((refl, refl), tt)) },
)
core_of_length w (inr e) = subst (λ z. CoreOk (z ∷ [])) (sym e) (
  record { base = refl; bases = ((refl, refl), tt) },
  record { base = refl; bases = ((refl, refl), ((refl, refl), tt)) },
  record { base = refl; bases = ((refl, refl), ((refl, refl), tt)) },
)

pub core_of_both : (w i : List ℕ) → Word terminals.Length w → i ≡ codes "int" → CoreOk (w ∷ i ∷ [])
core_of_both w i (inl e) d =
    subst (λ z. CoreOk (w ∷ z ∷ [])) (sym d) (subst (λ z. CoreOk (z ∷ codes "int" ∷ [])) (sym e) (
      record { base = refl; bases = ((refl, refl), ((refl, refl), tt)) },
      record { base = refl; bases = ((refl, refl), ((refl, refl), ((refl, refl), tt))) },
      record { base = refl; bases = ((refl, refl), ((refl, refl), ((refl, refl), tt))) },
    ))
core_of_both w i (inr e) d =
    subst (λ z. CoreOk (w ∷ z ∷ [])) (sym d) (subst (λ z. CoreOk (z ∷ codes "int" ∷ [])) (sym e) (
      record { base = refl; bases = ((refl, refl), ((refl, refl), tt)) },
      record { base = refl; bases = ((refl, refl), ((refl, refl), ((refl, refl), tt))) },
      record { base = refl; bases = ((refl, refl), ((refl, refl), ((refl, refl), tt))) },
    ))

pub front_words : (a b d c : List Spot) → Qualifiers (words a) → Qualifiers (words b) → BaseOk (words d) →
    Qualifiers (words c) → is_some (base_in (spelled (a ++ (b ++ (d ++ c))))) ≡ true
front_words a b d c ha hb hd hc =
    subst (λ z. is_some (base_in (spelled z)) ≡ true) (append_assoc a b (d ++ c))
    (type_spelled (a ++ b) d c (qualifiers_append a b ha hb) hd hc)

pub qualifier_word : (b : Bool) (j : Terminal) (m : Spot) → qualifies b j ≡ true → Word j m.word →
    QualifiersIf b (m ∷ [])
qualifier_word b terminals.Qualifier m q h = λ e. (h, tt)
qualifier_word b terminals.Restrict m q h = λ e. absurd (false≢true (sym e ∙ q))
qualifier_word b j m q h = absurd (false≢true q)

-- ---- operators

pub operand_prefix : (o : Option Prefix) (p : Syntax) (e : Type 0) → is_operand o ≡ true → e → PrefixOf o p e
operand_prefix (Some (prefix_kinds.Step op)) p e h x = x
operand_prefix (Some (prefix_kinds.Operator op)) p e h x = x
operand_prefix (Some prefix_kinds.Address) p e h x = x
operand_prefix (Some prefix_kinds.Content) p e h x = x
operand_prefix (Some prefix_kinds.Size) p e h x = absurd (false≢true h)
operand_prefix None p e h x = absurd (false≢true h)

pub prefix_word : (j : Terminal) (w : List ℕ) → prefixes j ≡ true → Word j w → is_operand (prefix_in w) ≡ true
prefix_word terminals.PlusMinus w h k = k.1
prefix_word terminals.Tilde w h k = k
prefix_word terminals.Ampersand w h k = k.1
prefix_word terminals.Star w h k = k.1
prefix_word j w h k = absurd (false≢true h)

pub set_word : (j : Terminal) (w : List ℕ) → assigns j ≡ true → Word j w → is_some (setting_in w) ≡ true
set_word terminals.Equals w h k = k
set_word terminals.Compound w h k = k
set_word j w h k = absurd (false≢true h)

pub size_word : (w o c : List ℕ) → w ≡ codes "sizeof" → o ≡ codes "(" → c ≡ codes ")" →
    prefix_in (w ++ (32 ∷ (o ++ (32 ∷ c)))) ≡ Some prefix_kinds.Size
unfolding prefix_in
size_word w o c e d g = ap (λ z. prefix_in (z ++ (32 ∷ (o ++ (32 ∷ c))))) e ∙
    (ap (λ z. prefix_in (codes "sizeof" ++ (32 ∷ (z ++ (32 ∷ c))))) d ∙
    ap (λ z. prefix_in (codes "sizeof" ++ (32 ∷ (codes "(" ++ (32 ∷ z))))) g)

pub index_word : (o c : List ℕ) → o ≡ codes "[" → c ≡ codes "]" → postfix_in (o ++ (32 ∷ c)) ≡ Some postfix_kinds.Index
unfolding postfix_in
index_word o c d g = ap (λ z. postfix_in (z ++ (32 ∷ c))) d ∙ ap (λ z. postfix_in (codes "[" ++ (32 ∷ z))) g

pub selection_word : (d n : List ℕ) → d ≡ codes "." → selects (d ++ (32 ∷ n)) ≡ true
selection_word d n e = ap (λ z. selects (z ++ (32 ∷ n))) e

-- an operator below && is one on two numbers
binary_word : (n : ℕ) (j : Terminal) (w : List ℕ) → nat_eq (looseness j) n ≡ true → 1 ≤ n → n ≤ 8 → Word j w →
    is_some (binary_in w) ≡ true
binary_word n terminals.Star w e l m h = h.0
binary_word n terminals.Slash w e l m h = h
binary_word n terminals.PlusMinus w e l m h = h.0
binary_word n terminals.Shift w e l m h = h
binary_word n terminals.Relation w e l m h = h
binary_word n terminals.Equality w e l m h = h
binary_word n terminals.Ampersand w e l m h = h.0
binary_word n terminals.Caret w e l m h = h
binary_word n terminals.Bar w e l m h = h
binary_word n terminals.Open w e l m h = let q = eqb-true 0 n e in absurd (omega arith)
binary_word n terminals.OpenBracket w e l m h = let q = eqb-true 0 n e in absurd (omega arith)
binary_word n terminals.Step w e l m h = let q = eqb-true 0 n e in absurd (omega arith)
binary_word n terminals.Point w e l m h = let q = eqb-true 0 n e in absurd (omega arith)
binary_word n terminals.AndAnd w e l m h = let q = eqb-true 9 n e in absurd (omega arith)
binary_word n terminals.OrOr w e l m h = let q = eqb-true 10 n e in absurd (omega arith)
binary_word n terminals.Question w e l m h = let q = eqb-true 11 n e in absurd (omega arith)
binary_word n terminals.Equals w e l m h = let q = eqb-true 12 n e in absurd (omega arith)
binary_word n terminals.Compound w e l m h = let q = eqb-true 12 n e in absurd (omega arith)
binary_word n terminals.Comma w e l m h = let q = eqb-true 13 n e in absurd (omega arith)
binary_word n j w e l m h = let q = eqb-true 14 n e in absurd (omega arith)

pub level_shape : (k : ℕ) (j : Terminal) (w : List ℕ) (f l : ℕ) (a b : Syntax) → joins k j ≡ true → Word j w →
    IsExpressionOf true a → IsExpressionOf true b → IsExpressionOf true (node (form_of k) w f l (more a (more b none)))
level_shape zero j w f l a b e h x y = (binary_word 1 j w e (omega arith) (omega arith) h, x, y)
level_shape (suc zero) j w f l a b e h x y = (binary_word 2 j w e (omega arith) (omega arith) h, x, y)
level_shape (suc (suc zero)) j w f l a b e h x y = (binary_word 3 j w e (omega arith) (omega arith) h, x, y)
level_shape (suc (suc (suc zero))) j w f l a b e h x y = (binary_word 4 j w e (omega arith) (omega arith) h, x, y)
level_shape (suc (suc (suc (suc zero)))) j w f l a b e h x y = (binary_word 5 j w e (omega arith) (omega arith) h, x, y)
level_shape (suc (suc (suc (suc (suc zero))))) j w f l a b e h x y =
    (binary_word 6 j w e (omega arith) (omega arith) h, x, y)
level_shape (suc (suc (suc (suc (suc (suc zero)))))) j w f l a b e h x y =
    (binary_word 7 j w e (omega arith) (omega arith) h, x, y)
level_shape (suc (suc (suc (suc (suc (suc (suc zero))))))) j w f l a b e h x y =
    (binary_word 8 j w e (omega arith) (omega arith) h, x, y)
level_shape (suc (suc (suc (suc (suc (suc (suc (suc zero)))))))) j w f l a b e h x y = (x, y)
level_shape (suc (suc (suc (suc (suc (suc (suc (suc (suc k))))))))) j w f l a b e h x y = (x, y)

pub sizeof_shape : (w : List ℕ) (f l : ℕ) (t : Syntax) → prefix_in w ≡ Some prefix_kinds.Size → IsType t →
    IsExpressionOf true (node forms.UnaryNode w f l (more t none))
sizeof_shape w f l t e h = subst (λ z. PrefixOf z t (IsExpressionOf true t)) (sym e) h

pub index_shape : (w : List ℕ) (f l : ℕ) (a b : Syntax) → postfix_in w ≡ Some postfix_kinds.Index →
    IsExpressionOf true a → IsExpressionOf true b →
    IsExpressionOf true (node forms.PostfixNode w f l (more a (more b none)))
index_shape w f l a b e x y = (ap indexes e, x, y)

-- ---- statements and functions

pub for_shape : (w : List ℕ) (f l : ℕ) (d b : Syntax) (ts us : Forest) → IsDeclarationOf true d ⊎ IsSimpleOf true d →
    MaybePart (IsExpressionOf true) ts → MaybePart (IsExpressionOf true) us → IsStatementOf true b →
    IsStatementOf true (node forms.ForNode w f l (more d (joined ts (joined us (more b none)))))
for_shape w f l d b none none h x y s = (h, s)
for_shape w f l d b none (more e none) h x y s = (h, y, s)
for_shape w f l d b (more c none) none h x y s = (h, x, s)
for_shape w f l d b (more c none) (more e none) h x y s = (h, x, y, s)
for_shape w f l d b (more c (more c' cs)) us h x y s = absurd x
for_shape w f l d b none (more e (more e' es)) h x y s = absurd y
for_shape w f l d b (more c none) (more e (more e' es)) h x y s = absurd y

pub block_statement : (t : Syntax) → IsBlockOf true t → IsStatementOf true t
block_statement (node forms.BlockNode w f l parts) h = h
block_statement t h = absurd h

pub simple_statement : (t : Syntax) → IsSimpleOf true t → IsStatementOf true t
simple_statement (node forms.SimpleNode w f l parts) h = h
simple_statement t h = absurd h

pub behind_heads : (P : Forest → Type 0) (heads : Forest) (r : Syntax) (rs : Forest) → AllParts (IsHeadOf true) heads →
    P (more r rs) → BehindHeadsOf true P (joined heads (more r rs))
behind_heads P none (node form w f l parts) rs h p = inr p
behind_heads P (more (node form w f l parts) ts) r rs h p = inl (h.0, behind_heads P ts r rs h.1 p)

pub head_shape : (w : List ℕ) (f l : ℕ) (t : Syntax) → IsAttribute t →
    IsHeadOf true (node forms.HeadNode w f l (more t none))
head_shape w f l (node forms.AttributeNode w' f' l' parts) h = h
head_shape w f l t h = absurd h
