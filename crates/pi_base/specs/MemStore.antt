-- The meanings of a store in memory.
use Rattle.std.specs.Prelude.{ℕ, true, List, Option, option_map, String, Vec}
use Rattle.std.specs.BTreeMap.{BTreeMap, get_by_text}
use Rattle.pi_base.specs.Views.{StoreView}
use Rattle.pi_base.specs.declared.mem_store.MemStore.{MemStore}

module _ {Y Z : Type 0} where
  -- the content of a name in a map from names to contents
  abbrev pub content_in : BTreeMap (String Y) (Vec ℕ Z) → List ℕ → Option (List ℕ)
  content_in files name = option_map (λ bytes. bytes.items) (get_by_text files name)

-- what it shows: the contents, and how many calls were refused, by cause
abbrev pub view_of : MemStore → StoreView
view_of store = record {
  shown = true;
  faithful = true;
  contents = content_in store.files;
  read_faults = store.counts.read_faults;
  write_faults = store.counts.write_faults;
  misses = store.counts.misses;
  overs = store.counts.overs;
}

-- the content of a name
abbrev pub content_of : MemStore → List ℕ → Option (List ℕ)
content_of store name = content_in store.files name

-- the numbers of the calls that fail
abbrev pub fails_of : MemStore → List ℕ
fails_of store = store.plan.fails.items

-- how many reads and writes were made
abbrev pub calls_of : MemStore → ℕ
calls_of store = store.plan.calls
