-- What varies, as code holds it.
use Rattle.colour_tables.specs.Stores.{Store}
use Rattle.colour_readers.specs.declared.varies.Varies.{Varies}

-- the store whose bytes these are
abbrev pub store_by : Varies → Store
store_by v = record { index_map = v.index_map.now; store = v.store.now }
