-- What 01's definitions call a memory and an image, from what a call is lent.
use Rattle.rules.specs.Lent.{Memory, Image, memory_of, image_of}
use Rattle.lent.specs.declared.Memory as code-memory
use Rattle.lent.specs.declared.Image as code-image

abbrev pub memory : code-memory.Memory → Memory
memory m = memory_of m.start m.bytes.now

abbrev pub image : code-image.Image → Image
image x = image_of x.block.now x.flash.start x.flash.bytes.now
