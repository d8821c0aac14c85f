mod Parts
mod Shape
mod Forms
mod FormByLength
