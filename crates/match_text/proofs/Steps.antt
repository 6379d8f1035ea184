-- Reading one item after the other.
use Rattle.std.proofs.Common.{◌≡◌, ℕ, List, [], ◌∷◌, Some, None, refl}
use Rattle.std.specs.Prelude.{Ok, Err}
use Rattle.spec_tables.specs.declared.edit_word.EditWord.{EditWord}
use Rattle.spec_flow_text.specs.declared.fault.TextFault.{TextFault}
use Rattle.spec_flow_text.specs.declared.fault.TextFault.TheVariants.{Syntax, UnknownName, Unsupported, BadValue, Repeated, TooManyActions, OutOfMemory}
use Rattle.spec_flow_text.specs.Given.{IsFault}
use Rattle.spec_flow_text.specs.Items.{Word, column, Sofar, with_item, list_start, read_items}

pub goes_on : (word : EditWord) (s t : Sofar) (w : Word) (ws : List Word) → None ≡ list_start w → with_item word w s ≡ Ok t
    → read_items word (w ∷ ws) s ≡ read_items word ws t
unfolding read_items
goes_on word s t w ws lacks stated = rw (← lacks, stated) refl

pub stops : (word : EditWord) (s : Sofar) (w : Word) (ws : List Word) (rest : ℕ) → Some rest ≡ list_start w
    → read_items word (w ∷ ws) s ≡ Ok (record { sofar = s; list = Some (column w, rest) })
unfolding read_items
stops word s w ws rest begins = rw (← begins) refl

pub at_end : (word : EditWord) (s : Sofar) → read_items word [] s ≡ Ok (record { sofar = s; list = None })
unfolding read_items
at_end word s = refl

fault : (word : EditWord) (s : Sofar) (w : Word) (ws : List Word) (e : TextFault) → None ≡ list_start w → with_item word w s ≡ Err e
    → read_items word (w ∷ ws) s ≡ Err e
unfolding read_items
fault word s w ws e lacks is = rw (← lacks, is) refl

pub fails : (word : EditWord) (s : Sofar) (w : Word) (ws : List Word) (e : TextFault) → None ≡ list_start w → IsFault e (with_item word w s)
    → IsFault e (read_items word (w ∷ ws) s)
fails word s w ws OutOfMemory lacks h = tt
fails word s w ws (Syntax col) lacks h = fault word s w ws (Syntax col) lacks h
fails word s w ws (UnknownName col) lacks h = fault word s w ws (UnknownName col) lacks h
fails word s w ws (Unsupported col) lacks h = fault word s w ws (Unsupported col) lacks h
fails word s w ws (BadValue col) lacks h = fault word s w ws (BadValue col) lacks h
fails word s w ws (Repeated col) lacks h = fault word s w ws (Repeated col) lacks h
fails word s w ws TooManyActions lacks h = fault word s w ws TooManyActions lacks h
