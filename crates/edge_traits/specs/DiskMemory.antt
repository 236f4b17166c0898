-- What a disk in memory tells of itself.
use Rattle.std.specs.Prelude.{drop}
use Rattle.edge_traits.specs.MemDisks.{Memory}
use Rattle.edge_traits.specs.DiskCalls.{holding}
use Rattle.edge_traits.specs.declared.mem_disk.MemDisk.{MemDisk}

-- what it holds
abbrev pub memory_of : MemDisk → Memory
memory_of d = holding d.bytes.items d.base.items (drop d.synced d.calls.items)
