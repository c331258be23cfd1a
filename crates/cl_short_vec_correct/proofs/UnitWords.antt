-- What is asked of the words in the blocks of functions, from the words of the unit.
use Rattle.cl_tree.specs.declared.tree.Form.TheVariants as forms
use Rattle.cl_tree.specs.Syntax.{Syntax, node, Forest, none, more}
use Rattle.cl_short_vec_correct.proofs.NamesSpelled.{HasWords, HaveWords, all_own_words}
use Rattle.cl_short_vec_correct.proofs.FunctionFronts.{WordedPart, WordedParts}
use Rattle.cl_short_vec_correct.proofs.Units.{WordedItem, WordedItems, WordedUnit}

worded_part : (t : Syntax) → HasWords t → WordedPart t
worded_part (node forms.BlockNode w f l lines) h = (h.1, all_own_words lines h.1)
worded_part (node form w f l parts) h = tt

worded_parts : (ps : Forest) → HaveWords ps → WordedParts ps
worded_parts none h = tt
worded_parts (more p ps) h = (worded_part p h.0, worded_parts ps h.1)

worded_item : (t : Syntax) → HasWords t → WordedItem t
worded_item (node forms.FunctionNode w f l parts) h = worded_parts parts h.1
worded_item (node form w f l parts) h = tt

worded_items : (ps : Forest) → HaveWords ps → WordedItems ps
worded_items none h = tt
worded_items (more p ps) h = (worded_item p h.0, worded_items ps h.1)

pub worded_unit : (t : Syntax) → HasWords t → WordedUnit t
worded_unit (node forms.UnitNode w f l items) h = worded_items items h.1
worded_unit (node form w f l items) h = tt
