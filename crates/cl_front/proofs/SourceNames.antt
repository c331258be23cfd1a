-- What a source says of the names of its unit, and of the number of its tokens.
use Rattle.std.proofs.Common.{◌≡◌, ℕ, suc, ◌≤◌, ◌<◌, ◌^◌, List, [], ◌∷◌, length, map, true}
use Rattle.std.proofs.Common.{refl, subst, arith}
use Rattle.std.proofs.lemmas.Bool.{false≢true}
use Rattle.std.proofs.lemmas.List.{length-append, length-map}
use Rattle.cl_token.specs.declared.token.Token.{Token}
use Rattle.cl_token.specs.Cuts.{Cuts, limit}
use Rattle.cl_prep.specs.declared.prep.Define.{Define}
use Rattle.cl_prep.specs.Expands as expanding
use Rattle.cl_prep.specs.Expands.{token_limit, State, Step, Leads, Expands}
use Rattle.cl_tree.specs.declared.tree.Form.{Form}
use Rattle.cl_tree.specs.declared.tree.Form.TheVariants as forms
use Rattle.cl_tree.specs.Syntax.{Syntax, node, Forest, none, more, last_of}
use Rattle.cl_tree.specs.Grammar as grammar
use Rattle.cl_tree.specs.Grammar.{SpellsUnit}
use Rattle.cl_meaning.specs.Spelling.{name_in}
use Rattle.cl_short_vec_correct.specs.Sources.{is_sourced}
use Rattle.cl_short_vec_correct.proofs.Says.{IsOwn}
use Rattle.cl_short_vec_correct.proofs.NamesSpelled.{WordBy, HasWords, HaveWords, unit_words}
use Rattle.cl_short_vec_correct.proofs.TokensKept.{expanded_plain}
use Rattle.cl_short_vec_faults.specs.Beside.{has_bytes, IsName}
use Rattle.cl_short_vec_faults.specs.Plainly.{NoPointBy, NoPoint, NoPoints}
use Rattle.cl_short_vec_faults.specs.UnitLaw.{DeclaredNameBy, DeclaredNames, AllDeclaredNames}
use Rattle.cl_short_vec_faults.proofs.Ordered.{in_to, last_in_within, unit_ordered}

-- ---- names

-- a name of a source has bytes
sourced_bytes : (q : List ℕ) → is_sourced q ≡ true → has_bytes q ≡ true
sourced_bytes [] h = absurd (false≢true h)
sourced_bytes (b ∷ bs) h = refl

own_is_name : (q : List ℕ) → IsOwn q → IsName q
own_is_name q h = record { some = sourced_bytes q h.0; plain = h.1 }

word_no_point : (form : Form) (w : List ℕ) → WordBy form w → NoPointBy form w
word_no_point forms.VariableNode w h = h.1
word_no_point forms.CallNode w h = h.1
word_no_point form w h = tt

word_declared : (form : Form) (w : List ℕ) → WordBy form w → DeclaredNameBy form w
word_declared forms.DeclaratorNode w h = own_is_name (name_in w) h
word_declared forms.ParamNode w h = own_is_name (name_in w) h
word_declared forms.FunctionNode w h = own_is_name (name_in w) h
word_declared forms.PrototypeNode w h = own_is_name (name_in w) h
word_declared form w h = tt

mutual
  words_no_point : (t : Syntax) → HasWords t → NoPoint t
  words_no_point (node form w f l parts) h = (word_no_point form w h.0, words_no_points parts h.1)

  words_no_points : (ps : Forest) → HaveWords ps → NoPoints ps
  words_no_points none h = tt
  words_no_points (more p ps) h = (words_no_point p h.0, words_no_points ps h.1)

mutual
  words_declared : (t : Syntax) → HasWords t → DeclaredNames t
  words_declared (node form w f l parts) h = (word_declared form w h.0, all_words_declared parts h.1)

  all_words_declared : (ps : Forest) → HaveWords ps → AllDeclaredNames ps
  all_words_declared none h = tt
  all_words_declared (more p ps) h = (words_declared p h.0, all_words_declared ps h.1)

-- No name in the unit of a source has a point in it, and what is declared has a name of a source.
pub source_names : (source : List ℕ) (tokens expanded : List Token) (defines : List Define) (unit : Syntax) →
    Cuts source tokens → Expands tokens defines expanded → SpellsUnit unit expanded →
    NoPoint unit × DeclaredNames unit
source_names source tokens expanded defines unit cuts expands spelled =
    let words = unit_words unit expanded spelled (expanded_plain source tokens expanded defines cuts expands) in
    (words_no_point unit words, words_declared unit words)

-- ---- the number of tokens

-- no more tokens have been given than may be given
abbrev IsWithin : State → Type 0
IsWithin s = length s.out ≤ token_limit

step_within : {s t : State} → Step s t → IsWithin s → IsWithin t
step_within (expanding.directive h ts scope e b f) w = w
step_within (expanding.skipped t ts e b a) w = w
step_within {s = s} (expanding.kept t ts e b a n l) w =
    let q = length-append s.out (t ∷ []) in omega arith
step_within {s = s} (expanding.replaced t ts body zs m e b a n v l k) w =
    let q = length-append s.out (map (expanding.placed t) zs) in
    let r = length-map zs (expanding.placed t) in
    omega arith

leads_within : {s t : State} → Leads s t → IsWithin s → IsWithin t
leads_within expanding.here w = w
leads_within (expanding.onward t u l s) w = step_within s (leads_within l w)

-- a source expands to no more tokens than the limit
expanded_within : (tokens expanded : List Token) (defines : List Define) → Expands tokens defines expanded →
    length expanded ≤ token_limit
expanded_within tokens expanded defines e = subst (λ z. length z ≤ token_limit) e.ends.given
    (leads_within e.ends.reached (omega arith))

-- the last token of a unit that tokens spell is one of them, or else there is none
unit_last : (unit : Syntax) (tokens : List Token) → SpellsUnit unit tokens → last_of unit < suc (length tokens)
unit_last unit tokens (grammar.unit {ts = ts} h) =
    last_in_within ts 0 (suc (length tokens)) 0
    (in_to ts 0 (length tokens) (suc (length tokens)) (omega arith) (unit_ordered unit tokens (grammar.unit h)))
    (omega arith)

-- The unit of expanded tokens has fewer than 2 ^ 64 of them.
pub expanded_few : (tokens expanded : List Token) (defines : List Define) (unit : Syntax) →
    Expands tokens defines expanded → SpellsUnit unit expanded → last_of unit < 2 ^ 64
expanded_few tokens expanded defines unit expands spelled =
    let a = expanded_within tokens expanded defines expands in
    let b = unit_last unit expanded spelled in
    omega arith

-- So has the unit of a source.
pub source_few : (source : List ℕ) (tokens expanded : List Token) (defines : List Define) (unit : Syntax) →
    length source ≤ limit → Cuts source tokens → Expands tokens defines expanded → SpellsUnit unit expanded →
    last_of unit < 2 ^ 64
source_few source tokens expanded defines unit short cuts expands spelled =
    expanded_few tokens expanded defines unit expands spelled
